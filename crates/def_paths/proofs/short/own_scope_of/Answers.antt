use Rattle.std.proofs.Common.{◌∙◌, sym}
use Rattle.def_sources.specs.Asking.{question_in, map_in}
use Rattle.def_paths.proofs.AnswersLemmas.{own-answer, was-not}
use Rattle.def_paths.proofs.short.own_scope_of.Goals as goal

pub returns : goal.returns
returns g c =
    own-answer (question_in g.D.PathDatabase.oracle c.args.asking.now) (map_in g.T.BindingTable.content c.args.asking.now) c.args.place c.args.path.now c.in_ok-module.module c.in_ok-module.name
    (sym c.is_asked_outside.ensures ∙ c.if-is_asked_outside.false) (was-not _ (sym c.ne.ensures ∙ c.if-ne.false)) c.in_ok-module.ensures
