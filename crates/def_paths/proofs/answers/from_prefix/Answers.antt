use Rattle.std.proofs.Common.{arith, drop, length, ◌<◌, length-drop, ◌∙◌}
use Rattle.def_sources.specs.Asking.{question_in, map_in}
use Rattle.def_paths.proofs.AnswersLemmas.{prefix-none, prefix-some}
use Rattle.def_paths.proofs.answers.from_prefix.Goals as goal

pub returns-in-Some : goal.returns-in-Some
returns-in-Some g c all e =
    let q = question_in g.D.PathDatabase.oracle c.args.asking.now in
    let own = map_in g.T.BindingTable.content c.args.asking.now in
    let rest = drop 1 c.args.segments.now in
    let more : 0 < length rest = simp length-drop (omega (arith, c.requires)) in
    c.walk.ensures ∙ prefix-some q own all c.in-Some.item rest more (e ∙ c.in-Some.is)

pub returns-in-None : goal.returns-in-None
returns-in-None g c all e =
    let q = question_in g.D.PathDatabase.oracle c.args.asking.now in
    let own = map_in g.T.BindingTable.content c.args.asking.now in
    let rest = drop 1 c.args.segments.now in
    let more : 0 < length rest = simp length-drop (omega (arith, c.requires)) in
    c.missing.ensures ∙ prefix-none q own all rest more (e ∙ c.in-None.is)
