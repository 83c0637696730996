use Rattle.std.proofs.Common.{refl}
use Rattle.def_modules.specs.Locals.{local_view}
use Rattle.def_crates.proofs.PlacesLemmas.{placed_next}
use Rattle.def_crates.proofs.crate_deps.place_all.Goals as goal

pub deps-preserved : goal.deps-preserved
deps-preserved c =
    placed_next (local_view c.args.last.now) c.args.deps.now c.deps.dep-index _ _ (local_view c.deps.local) (local_view c.place.new.local) _
    c.deps-test.true refl c.in_ok-place.ensures c.deps.invariant
