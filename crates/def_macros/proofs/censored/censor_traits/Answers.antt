use Rattle.std.proofs.Common.{◌≡◌, ◌<◌, ◌^◌, arith, refl, length}
use Rattle.def_sources.specs.Tables.{bound_by}
use Rattle.def_macros.proofs.CensoredLemmas.{traits_all, traits_length, traits_once, traits_step}
use Rattle.def_steps.proofs.GatherLemmas.{within_index}
use Rattle.def_macros.proofs.censored.censor_traits.Goals as goal

pub traits-init : goal.traits-init
traits-init c = (refl, c.requires)

pub overflow_add-index : goal.overflow_add-index
overflow_add-index c =
    let traits = (bound_by c.traits.table).unnamed c.args.at in
    let h : c.traits.index < length traits = within_index traits c.traits.index c.in-Some.held c.in-Some.ensures.item in
    let few : length traits < 2 ^ 64 = c.in-Some.ensures.few in
    omega arith

pub traits-smaller : goal.traits-smaller
traits-smaller c =
    let traits = (bound_by c.traits.table).unnamed c.args.at in
    let h : c.traits.index < length traits = within_index traits c.traits.index c.in-Some.held c.in-Some.ensures.item in
    let same : length ((bound_by c.censor_trait.new.table).unnamed c.args.at) ≡ length traits =
    traits_length c.args.at (bound_by c.traits.table) c.traits.index (bound_by c.censor_trait.new.table) c.in_ok-censor_trait.ensures in
    omega arith

pub traits-preserved : goal.traits-preserved
traits-preserved c = (
  traits_step c.args.at (bound_by c.traits.table) c.traits.index (bound_by c.censor_trait.new.table) _ c.in_ok-censor_trait.ensures c.traits.invariant.0,
  traits_once c.args.at (bound_by c.traits.table) c.traits.index (bound_by c.censor_trait.new.table) c.in_ok-censor_trait.ensures c.traits.invariant.1,
)

pub returns : goal.returns
returns c = traits_all c.args.at (bound_by c.traits.table) c.traits.index (bound_by c.args.table.now) c.in_default.ensures.item c.traits.invariant.0

pub censor_trait-requires-clause-once : goal.censor_trait-requires-clause-once
censor_trait-requires-clause-once c = c.traits.invariant.1
