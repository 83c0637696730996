use Rattle.std.proofs.Common.{refl, sym, ◌∙◌}
use Rattle.def_map.specs.Asking.{world_lent}
use Rattle.def_map.specs.DefMaps.{view_of}
use Rattle.def_map.specs.Sources.{World}
use Rattle.def_sources.specs.Tables.{bound_by}
use Rattle.def_laws.proofs.ResultLaws.{if_ok}
use Rattle.def_imports.proofs.GlobLemmas.{entries_elsewhere, entries_here}
use Rattle.def_imports.proofs.globs.module_entries.Goals as goal

pub returns-then-eq : goal.returns-then-eq
returns-then-eq g c =
    let w : World = world_lent g.D.SourceDatabase.oracle bound_by c.args.world.now in
    if_ok c.entries.result c.entries.ensures (λ entries are.
    entries_here w c.args.glob c.args.source entries.items c.is_own_crate-own.result w.map.content c.is_own_crate-own.ensures are (sym c.eq.ensures ∙ c.if-eq.true) refl)

pub returns : goal.returns
returns g c =
    let w : World = world_lent g.D.SourceDatabase.oracle bound_by c.args.world.now in
    if_ok c.entries-2.result c.entries-2.ensures (λ entries are.
    entries_elsewhere w c.args.glob c.args.source entries.items c.is_own_crate-own.result (bound_by c.table.result.now) c.is_own_crate-own.ensures are
    (view_of c.in-Some.map.now) (sym c.eq.ensures ∙ c.if-eq.false) c.in-Some.ensures.view c.table.ensures)
