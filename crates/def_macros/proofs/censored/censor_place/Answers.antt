use Rattle.std.proofs.Common.{◌∙◌}
use Rattle.def_bindings.specs.declared.visibility.Visibility.TheVariants.{PubCrate}
use Rattle.def_tables.specs.Kept.{numbered_vis}
use Rattle.def_tables.specs.NumberedTableLaws.{are_tied}
use Rattle.def_sources.specs.Tables.{bound_by}
use Rattle.def_laws.proofs.RecordLaws.{on_ok}
use Rattle.def_macros.proofs.CensoredLemmas.{place_kept, place_set}
use Rattle.def_macros.proofs.censored.censor_place.Goals as goal

pub returns-then-stays : goal.returns-then-stays
returns-then-stays c = place_kept c.args.at c.args.name c.args.ns (bound_by c.args.table.now) c.in-Some.held c.in-Some.ensures (c.stays.ensures.same c.if-stays.true)

pub returns : goal.returns
returns c =
    let held = c.in-Some.held in
    on_ok c.set.result c.set.ensures.done (λ set.
    set
    ∙ place_set c.args.at c.args.name c.args.ns (bound_by c.args.table.now) (are_tied numbered_vis c.args.table.now) held c.in-Some.ensures (record held { vis = PubCrate }) (c.stays.ensures.hidden c.if-stays.false))
