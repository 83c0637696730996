-- Helpers that are handed on.
use Rattle.std.proofs.Common.{◌≡◌, List, [], ◌∷◌, Option, Some, None, refl, ap, ◌∙◌}
use Rattle.tree_ids.specs.declared.ids.ModItemId.{ModItemId}
use Rattle.tree_ids.specs.declared.ids.TreeId.{TreeId}
use Rattle.item_tree.specs.declared.items.ItemNode.{ItemNode}
use Rattle.def_map.specs.Oracle.{Oracle}
use Rattle.def_modules.specs.MapState.{MapState}
use Rattle.def_rules.specs.Calls.{each_helped, helped}
use Rattle.def_rules.specs.Items.{node_at}

helped-none : (m : MapState) (tree : TreeId) (item : Option ItemNode) → helped m tree [] item ≡ m
helped-none m tree None = refl
helped-none m tree (Some item) = refl

-- where there are none, none are
pub each_helped-none : (oracle : Oracle) (m : MapState) (tree : TreeId) (ids : List ModItemId) → each_helped oracle m tree [] ids ≡ m
each_helped-none oracle m tree [] = refl
each_helped-none oracle m tree (id ∷ ids) = ap (λ x. each_helped oracle x tree [] ids) (helped-none m tree (node_at oracle tree id)) ∙ each_helped-none oracle m tree ids
