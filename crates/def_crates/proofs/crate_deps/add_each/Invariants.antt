use Rattle.std.proofs.Common.{◌≡◌, drop}
use Rattle.def_modules.specs.Locals.{local_view}
use Rattle.def_modules.specs.Maps.{crate_state}
use Rattle.def_rules.specs.Crates.{after_deps}
use Rattle.def_crates.proofs.crate_deps.add_each.Given as goal

abbrev pub invariant-deps : goal.invariant-deps
invariant-deps g l =
    after_deps (g.D.SourceDatabase.oracle l.db) (crate_state l.krate) (drop l.dep-index l.deps) (local_view l.local)
    ≡ after_deps (g.D.SourceDatabase.oracle l.db) (crate_state l.krate) l.deps (local_view l.initial.local)
