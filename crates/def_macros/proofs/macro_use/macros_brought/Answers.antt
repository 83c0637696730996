use Rattle.std.proofs.Common.{sym, ◌∙◌}
use Rattle.def_map.specs.Asking.{world_lent}
use Rattle.def_map.specs.DefMaps.{view_of}
use Rattle.def_map.specs.Sources.{World}
use Rattle.def_sources.specs.Tables.{bound_by}
use Rattle.def_macros.proofs.MacrosLemmas.{if_ok, taken_elsewhere}
use Rattle.def_macros.proofs.macro_use.macros_brought.Goals as goal

pub returns : goal.returns
returns g c =
    let w : World = world_lent g.D.SourceDatabase.oracle bound_by c.args.world.now in
    if_ok c.taken_in-2.result c.taken_in-2.ensures (λ taken are. are ∙ taken_elsewhere w c.args.root _ c.attrs_of-attrs.result.now (bound_by c.table.result.now) (view_of c.in-Some.map.now) c.attrs_of-attrs.ensures
    (sym c.eq.ensures ∙ c.if-eq.false) c.in-Some.ensures.view c.table.ensures)
