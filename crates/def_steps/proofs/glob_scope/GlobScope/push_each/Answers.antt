use Rattle.std.proofs.Common.{refl}
use Rattle.def_bindings.specs.declared.bindings.Namespace.TheVariants.{Types, Values, Macros}
use Rattle.def_bindings.specs.ModuleTree.{chain_in}
use Rattle.def_bindings.specs.Visibility.{order_over}
use Rattle.def_map.specs.PerNs.{kept}
use Rattle.def_sources.specs.Tables.{bound_by}
use Rattle.def_rules.specs.Globs.{brought, glob_sees}
use Rattle.def_steps.proofs.GatherLemmas.{gathered_thrice}
use Rattle.def_steps.proofs.glob_scope.GlobScope.push_each.Goals as goal

pub returns : goal.returns
returns c =
    let self = c.args.self.now in
    let o = order_over (chain_in self.order.now) in
    gathered_thrice (λ ns item. brought o self.glob c.args.name ns (kept (λ i. glob_sees o self.own self.glob.importer i.vis) item))
    ((bound_by self.table.now).binding self.source c.args.name) c.push_in-3.result
    c.args.entries.now.items c.push_in.new.entries.items c.push_in-2.new.entries.items c.push_in-3.new.entries.items Types Values Macros _ _ _
    refl refl refl c.in_ok-push_in.ensures c.in_ok-push_in-2.ensures c.push_in-3.ensures
