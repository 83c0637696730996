use Rattle.std.proofs.Common.{◌≡◌, take, drop, []}
use Rattle.def_map.specs.Asking.{world_lent}
use Rattle.def_sources.specs.Tables.{bound_by}
use Rattle.macro_calls.proofs.ResolverLemmas.{around}
use Rattle.macro_calls.proofs.early_resolver.textual_around.Given as goal

-- no map so far has one: the rest is asked
abbrev pub invariant-maps : goal.invariant-maps
invariant-maps g l =
    let w = world_lent g.D.SourceDatabase.oracle bound_by l.world in
    around w l.name (take l.i l.containing) (drop l.i l.containing) ≡ around w l.name [] l.containing
