use Rattle.std.proofs.Common.{◌≡◌, take, drop, []}
use Rattle.def_paths.specs.Answers.{joined}
use Rattle.def_sources.specs.Asking.{question_in}
use Rattle.def_paths.specs.OuterMaps.{answers_outside}
use Rattle.def_paths.proofs.answers.with_outside.Given as goal

-- the answer so far, joined with those of the maps that are left
abbrev pub invariant-maps : goal.invariant-maps
invariant-maps g l =
    let q = question_in g.D.PathDatabase.oracle l.asking in
    joined l.answer (answers_outside q l.path (take l.i l.containing) (drop l.i l.containing)) ≡ joined l.fn.first (answers_outside q l.path [] l.containing)
