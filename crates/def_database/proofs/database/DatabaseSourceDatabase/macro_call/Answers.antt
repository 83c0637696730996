use Rattle.std.proofs.Common.{ap, ◌∙◌, sym, List, None, Ok}
use Rattle.tree_ids.specs.declared.ids.MacroCallId.{MacroCallId}
use Rattle.def_modules.specs.Equality.{position_eq}
use Rattle.def_modules.specs.EqualityLaws.{positions_same}
use Rattle.def_modules.specs.MapState.{Position}
use Rattle.def_oracle.specs.Queries.{plain_call}
use Rattle.def_oracle.specs.declared.source_database.CallAnswer.{CallAnswer}
use Rattle.def_database.specs.ByMacro.{said_at}
use Rattle.def_database.proofs.CallsLemmas.{answer-read}
use Rattle.def_database.proofs.database.DatabaseSourceDatabase.macro_call.Goals as goal

abbrev nothing_but : List (Position × MacroCallId) → CallAnswer
nothing_but inner = record { value = None; err = None; inner = inner }

pub returns-in_ok-copy_of-in-Some-answer_at : goal.returns-in_ok-copy_of-in-Some-answer_at
returns-in_ok-copy_of-in-Some-answer_at g c =
    let answers = c.args.self.now.calls.answers in
    let query = plain_call c.args.query in
    let rekeyed = ap (λ eq. said_at eq answers query.position c.in-Some.found.id) positions_same in
    ap Ok c.in_ok-copy_of-in-Some-answer_at.ensures
    ∙ answer-read (said_at position_eq answers) query c.in-Some.found _ _ (sym c.in-Some.ensures) (sym rekeyed ∙ sym c.in-Some-answer_at.ensures)

pub returns-in-None : goal.returns-in-None
returns-in-None g c =
    let answers = c.args.self.now.calls.answers in
    let query = plain_call c.args.query in
    let rekeyed = ap (λ eq. said_at eq answers query.position c.in-Some.found.id) positions_same in
    ap (λ inner. Ok (nothing_but inner)) (c.from_vec.ensures ∙ c.new.ensures.items)
    ∙ answer-read (said_at position_eq answers) query c.in-Some.found _ None (sym c.in-Some.ensures) (sym rekeyed ∙ sym c.in-None.ensures)
