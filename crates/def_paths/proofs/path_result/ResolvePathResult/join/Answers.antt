use Rattle.def_paths.proofs.AnswersLemmas.{joined-two}
use Rattle.def_paths.proofs.path_result.ResolvePathResult.join.Goals as goal

pub returns : goal.returns
returns c = joined-two c.args.self c.args.other c.or.result c.or-2.result c.leading-leading.result c.or.ensures c.or-2.ensures c.leading-leading.ensures
