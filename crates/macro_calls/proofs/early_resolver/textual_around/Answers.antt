use Rattle.std.proofs.Common.{◌∙◌, refl, sym}
use Rattle.def_map.specs.Asking.{world_lent}
use Rattle.def_sources.specs.Tables.{bound_by}
use Rattle.def_paths.proofs.AroundLemmas.{around-found, around-none, around-step}
use Rattle.macro_calls.proofs.ResolverLemmas.{around}
use Rattle.macro_calls.proofs.early_resolver.textual_around.Goals as goal

pub maps-init : goal.maps-init
maps-init g c = refl

pub maps-preserved : goal.maps-preserved
maps-preserved g c =
    around-step (around (world_lent g.D.SourceDatabase.oracle bound_by c.args.world.now) c.args.name) c.as_slice-containing.result.now c.maps.i _ c.textual_in_next-found.result _
    c.maps-test.true c.textual_in_next-found.ensures (sym c.is_some.ensures ∙ c.if-is_some.false) c.maps.invariant

pub returns-then-is_some : goal.returns-then-is_some
returns-then-is_some g c =
    around-found (around (world_lent g.D.SourceDatabase.oracle bound_by c.args.world.now) c.args.name) c.as_slice-containing.result.now _ c.maps.i _ c.textual_in_next-found.result
    c.maps-test.true c.textual_in_next-found.ensures (sym c.is_some.ensures ∙ c.if-is_some.true) c.maps.invariant c.as_slice-containing.ensures

pub returns : goal.returns
returns g c =
    around-none (around (world_lent g.D.SourceDatabase.oracle bound_by c.args.world.now) c.args.name) (λ before. refl) c.as_slice-containing.result.now _ c.maps.i
    c.maps-test.false c.maps.invariant c.as_slice-containing.ensures
