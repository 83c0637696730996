use Rattle.std.proofs.Common.{◌≡◌, drop, false}
use Rattle.def_paths.specs.Answers.{walk}
use Rattle.def_sources.specs.PerNs.{in_types}
use Rattle.def_sources.specs.Asking.{question_in, map_in}
use Rattle.def_paths.proofs.answers.walk.Given as goal

-- what is left of the walk decides
abbrev pub invariant-segments : goal.invariant-segments
invariant-segments g l =
    let q = question_in g.D.PathDatabase.oracle l.asking in
    let own = map_in g.T.BindingTable.content l.asking in
    walk q own l.crossed (in_types l.item) l.i (drop l.i l.segments) ≡ walk q own false (in_types l.fn.first) l.fn.begin (drop l.fn.begin l.segments)
