use Rattle.std.proofs.Common.{sym, ◌∙◌}
use Rattle.def_map.specs.Asking.{world_lent}
use Rattle.def_map.specs.DefMaps.{view_of}
use Rattle.def_sources.specs.Tables.{bound_by}
use Rattle.macro_calls.proofs.ResolverLemmas.{bound_elsewhere}
use Rattle.macro_calls.proofs.early_resolver.bound_macro.Goals as goal

pub returns-in-Some : goal.returns-in-Some
returns-in-Some g c =
    c.macro_in-in-Some.ensures
    ∙ bound_elsewhere (world_lent g.D.SourceDatabase.oracle bound_by c.args.world.now) c.args.place c.args.name (bound_by c.table.result.now) (view_of c.in-Some.map.now) (sym c.eq.ensures ∙ c.if-eq.false) c.in-Some.ensures.view c.table.ensures
