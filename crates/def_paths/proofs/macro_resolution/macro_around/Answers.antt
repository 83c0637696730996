use Rattle.std.proofs.Common.{◌∙◌, refl, sym}
use Rattle.def_sources.specs.Asking.{question_in}
use Rattle.def_paths.proofs.AroundLemmas.{around-found, around-none, around-step}
use Rattle.def_paths.proofs.MacroLemmas.{macro_around}
use Rattle.def_paths.proofs.macro_resolution.macro_around.Goals as goal

pub maps-init : goal.maps-init
maps-init g c = refl

pub maps-preserved : goal.maps-preserved
maps-preserved g c =
    around-step (macro_around (question_in g.D.PathDatabase.oracle c.args.asking.now) c.args.path.now) c.args.containing.now c.maps.i _ c.macro_in_next-found.result _
    c.maps-test.true c.macro_in_next-found.ensures (sym c.is_some.ensures ∙ c.if-is_some.false) c.maps.invariant

pub returns-then-is_some : goal.returns-then-is_some
returns-then-is_some g c =
    around-found (macro_around (question_in g.D.PathDatabase.oracle c.args.asking.now) c.args.path.now) c.args.containing.now _ c.maps.i _ c.macro_in_next-found.result
    c.maps-test.true c.macro_in_next-found.ensures (sym c.is_some.ensures ∙ c.if-is_some.true) c.maps.invariant refl

pub returns : goal.returns
returns g c =
    around-none (macro_around (question_in g.D.PathDatabase.oracle c.args.asking.now) c.args.path.now) (λ before. refl) c.args.containing.now _ c.maps.i
    c.maps-test.false c.maps.invariant refl
