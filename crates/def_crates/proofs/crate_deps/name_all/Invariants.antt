use Rattle.std.proofs.Common.{◌≡◌, drop}
use Rattle.def_modules.specs.Locals.{local_view}
use Rattle.def_rules.specs.Crates.{with_all_deps}
use Rattle.def_crates.proofs.crate_deps.name_all.Given as goal

-- what is left names the rest
abbrev pub invariant-deps : goal.invariant-deps
invariant-deps l = with_all_deps (drop l.dep-index l.deps) (local_view l.known) ≡ with_all_deps l.deps (local_view l.fn.known)
