use Rattle.std.proofs.Common.{ap, ◌∙◌, Some}
use Rattle.std.specs.Option.{option_or}
use Rattle.indexmap.specs.IndexMap.{get}
use Rattle.def_ids.specs.Equality.{macro_eq}
use Rattle.def_ids.specs.contracts.ids.MacroIdPartialEq.TheImpl as macros
use Rattle.def_modules.specs.EqualityLaws.{macros_same}
use Rattle.def_modules.proofs.CrateLemmas.{rekeyed}
use Rattle.def_database.proofs.ByMacroLemmas.{or-set}
use Rattle.def_database.proofs.by_macro.ByMacro.set.Goals as goal

pub returns-clause-ok : goal.returns-clause-ok
returns-clause-ok g c = λ m.
    let old = c.args.self.now in
    let e = rekeyed macros.ghosts.eq macro_eq macros_same old.each c.insert.new.self c.args.macro_id (Some c.args.answer) c.in_ok-insert.ensures.updates.0 in
    ap (λ f. option_or (f m) old.others) e ∙ or-set (macro_eq c.args.macro_id m) c.args.answer (get macro_eq old.each m) old.others
