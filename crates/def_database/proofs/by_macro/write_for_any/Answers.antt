use Rattle.indexmap.specs.IndexMap.{get}
use Rattle.def_database.proofs.ByMacroLemmas.{said-any}
use Rattle.def_database.proofs.by_macro.write_for_any.Goals as goal

pub returns-clause-ok : goal.returns-clause-ok
returns-clause-ok g c =
    let eq = g.P.PartialEq.eq in
    said-any eq c.args.place (get eq c.args.written.now) (get eq c.insert.new.self) c.whichever.result c.args.answer c.in_ok-insert.ensures.updates.0 c.whichever.ensures
