use Rattle.def_ids.specs.Ids.{crate_root}
use Rattle.def_sources.specs.Asking.{question_in}
use Rattle.def_paths.proofs.AnswersLemmas.{outside-step}
use Rattle.def_paths.proofs.answers.with_outside.Goals as goal

pub maps-preserved : goal.maps-preserved
maps-preserved g c =
    let q = question_in g.D.PathDatabase.oracle c.args.asking.now in
    outside-step q c.args.path.now c.args.containing.now c.maps.i (crate_root (record { 0 = 0 })) c.with_map-answer.result c.maps.answer
    _ c.maps-test.true c.with_map-answer.ensures c.maps.invariant
