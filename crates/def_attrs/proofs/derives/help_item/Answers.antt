use Rattle.std.proofs.Common.{ap, map, refl, sym, ◌∙◌}
use Rattle.std.specs.Option.{option_copied}
use Rattle.def_modules.specs.Maps.{helper_state, map_state}
use Rattle.def_rules.specs.Calls.{helped}
use Rattle.def_attrs.proofs.HelpersLemmas.{helpers_all, helpers_more}
use Rattle.def_attrs.proofs.derives.help_item.Goals as goal

pub helpers-init : goal.helpers-init
helpers-init c = refl

pub helpers-preserved : goal.helpers-preserved
helpers-preserved c =
    helpers_more helper_state (map_state c.args.def_map.now) (map_state c.helpers.def_map) _ _ c.args.helpers.now c.helpers.helper-index _ c.helpers-test.true c.in_ok-add_derive_helper.ensures c.helpers.invariant

pub returns-in_default : goal.returns-in_default
returns-in_default c = sym (ap (λ item. helped (map_state c.args.def_map.now) c.args.tree_id (map helper_state c.args.helpers.now) (option_copied item)) c.in_default.is)

pub returns : goal.returns
returns c =
    helpers_all helper_state (map_state c.args.def_map.now) (map_state c.helpers.def_map) _ c.args.helpers.now c.helpers.helper-index c.helpers-test.false c.helpers.invariant
    ∙ sym (ap (λ item. helped (map_state c.args.def_map.now) c.args.tree_id (map helper_state c.args.helpers.now) (option_copied item)) c.in-Some.is)
