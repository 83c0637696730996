use Rattle.std.proofs.Common.{[], ap, map, refl, sym, ◌∙◌}
use Rattle.std.specs.HashMap.{get_by}
use Rattle.std.specs.Option.{option_and_then, option_copied, option_map, option_map_or, unwrap_or}
use Rattle.def_modules.specs.EqualityLaws.{positions_same}
use Rattle.def_modules.specs.Maps.{helper_state, map_state}
use Rattle.def_rules.specs.Calls.{each_helped}
use Rattle.def_rules.specs.Items.{top_items}
use Rattle.item_tree.specs.Trees.{item_at}
use Rattle.def_attrs.proofs.DerivesLemmas.{each_helped-none}
use Rattle.def_attrs.proofs.HelpersLemmas.{items_all, items_more}
use Rattle.def_attrs.proofs.derives.hand_on.Goals as goal

pub returns-in_default : goal.returns-in_default
returns-in_default g c =
    let oracle = g.D.SourceDatabase.oracle c.args.db.now in
    let m = map_state c.args.def_map.now in
    let none = ap (λ o. option_map_or (map helper_state) o []) (ap option_copied (sym c.in_default.is) ∙ c.get.ensures.value ∙ (λ i. get_by (positions_same i c.args.position) c.args.def_map.now.derive_helpers)) in
    sym (each_helped-none oracle m c.args.tree_id (top_items oracle c.args.tree_id)) ∙ ap (λ helpers. each_helped oracle m c.args.tree_id helpers (top_items oracle c.args.tree_id)) none

pub items-init : goal.items-init
items-init g c = refl

pub items-preserved : goal.items-preserved
items-preserved g c =
    let known = c.top_level_items-id-items.result.now in
    let i = c.items.id-index in
    items_more (g.D.SourceDatabase.oracle c.args.db.now) c.args.tree_id (map helper_state c.in_ok-helpers.helpers.items) (map helper_state c.as_slice-in-items.result.now) (map_state c.args.def_map.now) (map_state c.items.def_map) _
    c.in-Some-item_tree.tree.now.top known i _ _ c.items-test.true c.top_level_items-id-items.ensures (ap (map helper_state) c.as_slice-in-items.ensures.value)
    (c.index-node.ensures ∙ ap (option_and_then (λ tree. item_at tree.items _)) c.in-Some-item_tree.ensures) c.in_ok-help_item.ensures c.items.invariant

pub returns : goal.returns
returns g c =
    let told = ap option_copied (sym c.in-Some.is) ∙ c.get.ensures.value ∙ (λ i. get_by (positions_same i c.args.position) c.args.def_map.now.derive_helpers) in
    let helpers = ap (map helper_state) (c.in_ok-helpers.ensures.items_if_clones_equal (λ x y same. same) ∙ c.as_slice.ensures) ∙ ap (λ o. option_map_or (map helper_state) o []) told in
    items_all (g.D.SourceDatabase.oracle c.args.db.now) c.args.tree_id (map helper_state c.in_ok-helpers.helpers.items) _ (map_state c.args.def_map.now) (map_state c.items.def_map)
    c.in-Some-item_tree.tree.now.top c.top_level_items-id-items.result.now _ c.items.id-index c.items-test.false c.top_level_items-id-items.ensures helpers
    (ap (λ o. unwrap_or (option_map (λ tree. tree.top) o) []) c.in-Some-item_tree.ensures) c.items.invariant
