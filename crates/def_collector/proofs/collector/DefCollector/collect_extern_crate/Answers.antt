use Rattle.std.proofs.Common.{List, [], ◌∷◌, Option, Some, None, subst, sym}
use Rattle.tree_ids.specs.declared.name.Name.{Name}
use Rattle.def_ids.specs.declared.ids.MacroId.{MacroId}
use Rattle.def_ids.specs.declared.ids.ModuleId.{ModuleId}
use Rattle.def_parts.specs.Sites.{site_of}
use Rattle.def_collector.specs.Collector.{state_of}
use Rattle.def_rules.specs.ExternCrates.{crate_effect, crate_entry}
use Rattle.def_laws.specs.Performs.{Performs}
use Rattle.def_rules.specs.State.{Effect, State}
use Rattle.def_laws.proofs.RecordLaws.{on_ok}
use Rattle.def_laws.proofs.StepsLaws.{performs_none, performs_updated}
use Rattle.def_collector.proofs.collector.DefCollector.collect_extern_crate.Goals as goal

pub returns-in-Some : goal.returns-in-Some
returns-in-Some c = on_ok c.put_crate.result c.put_crate.ensures (λ updated oracle session.
    let item = c.args.item in
    let before : State = state_of c.args.self.now session in
    let after : State = state_of (record c.args.self.now { local_def_map = c.put_crate.new.local; def_map = c.put_crate.new.def_map; table = c.put_crate.new.table }) session in
    let effect : List (Name × MacroId) → Option ModuleId → Effect = λ brought root. crate_effect before (site_of item.site.now) item.node.now item.id item.name item.vis brought root in
    subst (λ root. Performs oracle (effect c.args.brought.items root).tasks (effect c.args.brought.items root).state after) (sym c.in-Some.is)
    (subst (λ brought. Performs oracle (effect brought (Some c.in-Some.root)).tasks (effect brought (Some c.in-Some.root)).state after) c.as_slice.ensures.value
    (performs_updated item.site.now.module_id (crate_entry item.id item.name c.in-Some.root item.vis ∷ []) (effect c.as_slice.result.now (Some c.in-Some.root)).state after (updated before))))

pub returns : goal.returns
returns c = on_ok c.miss_crate.result c.miss_crate.ensures (λ missed oracle session.
    let item = c.args.item in
    let before : State = state_of c.args.self.now session in
    let after : State = state_of (record c.args.self.now { missing_crates = c.miss_crate.new.missing; diagnostics = c.miss_crate.new.diagnostics }) session in
    let effect : Option ModuleId → Effect = λ root. crate_effect before (site_of item.site.now) item.node.now item.id item.name item.vis c.args.brought.items root in
    subst (λ root. Performs oracle (effect root).tasks (effect root).state after) (sym c.in-None.is)
    (subst (λ u. Performs oracle [] (effect None).state u) (sym (missed before)) (performs_none (effect None).state)))
