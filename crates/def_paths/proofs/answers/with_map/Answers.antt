use Rattle.std.proofs.Common.{◌∙◌, sym}
use Rattle.def_sources.specs.Asking.{question_in}
use Rattle.def_paths.proofs.AnswersLemmas.{outside-seen, outside-unknown, outside-joined}
use Rattle.def_paths.proofs.answers.with_map.Goals as goal

pub returns-then-is_map_among : goal.returns-then-is_map_among
returns-then-is_map_among g c =
    let q = question_in g.D.PathDatabase.oracle c.args.asking.now in
    outside-seen q c.args.path.now c.args.before.now c.args.place c.args.answer (sym c.is_map_among.ensures ∙ c.if-is_map_among.true)

pub returns-in-Some : goal.returns-in-Some
returns-in-Some g c =
    let q = question_in g.D.PathDatabase.oracle c.args.asking.now in
    outside-joined q c.args.path.now c.args.before.now c.args.place c.args.answer c.in-Some.other c.join.result
    (sym c.is_map_among.ensures ∙ c.if-is_map_among.false) (sym c.in-Some.is ∙ c.answer_outside.ensures) c.join.ensures

pub returns-in-None : goal.returns-in-None
returns-in-None g c =
    let q = question_in g.D.PathDatabase.oracle c.args.asking.now in
    outside-unknown q c.args.path.now c.args.before.now c.args.place c.args.answer
    (sym c.is_map_among.ensures ∙ c.if-is_map_among.false) (sym c.in-None.is ∙ c.answer_outside.ensures)
