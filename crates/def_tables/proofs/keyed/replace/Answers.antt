use Rattle.std.proofs.Common.{sym, ◌∙◌}
use Rattle.def_tables.proofs.NumbersLemmas.{set_value-insert_entry}
use Rattle.def_tables.proofs.ResultLemmas.{some_there}
use Rattle.def_tables.proofs.keyed.replace.Goals as goal

pub returns-in-Some-clause-entries : goal.returns-in-Some-clause-entries
returns-in-Some-clause-entries g c h =
    let there = some_there (sym c.in-Some.ensures.value) in
    (c.get_mut.follows.holds c.args.value).0 ∙ set_value-insert_entry g.K.PartialEq.eq c.args.entries.now.entries c.args.key c.args.value there
