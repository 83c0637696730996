use Rattle.std.proofs.Common.{◌≡◌, drop}
use Rattle.def_modules.specs.Locals.{local_view}
use Rattle.def_crates.specs.Places.{with_lasts}
use Rattle.def_crates.proofs.crate_deps.place_all.Given as goal

-- what is left places the rest
abbrev pub invariant-deps : goal.invariant-deps
invariant-deps l =
    with_lasts (local_view l.last) (drop l.dep-index l.deps) (local_view l.local)
    ≡ with_lasts (local_view l.last) l.deps (local_view l.fn.local)
