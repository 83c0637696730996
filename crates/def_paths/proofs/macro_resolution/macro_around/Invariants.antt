use Rattle.std.proofs.Common.{◌≡◌, take, drop, []}
use Rattle.def_sources.specs.Asking.{question_in}
use Rattle.def_paths.proofs.MacroLemmas.{macro_around}
use Rattle.def_paths.proofs.macro_resolution.macro_around.Given as goal

-- no map so far has any: the rest is asked
abbrev pub invariant-maps : goal.invariant-maps
invariant-maps g l =
    let q = question_in g.D.PathDatabase.oracle l.asking in
    macro_around q l.path (take l.i l.containing) (drop l.i l.containing) ≡ macro_around q l.path [] l.containing
