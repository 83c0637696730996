-- What a derive is declared as: its name and its helper attributes.
use Rattle.std.specs.Prelude.{List, [], ◌∷◌, Bool, false, cond, nat_eq, ◌&&◌, Option, None, Some, option_map}
use Rattle.tree_ids.specs.declared.name.Name.{Name}
use Rattle.item_tree.specs.declared.tt.Leaf.{Leaf}
use Rattle.item_tree.specs.declared.tt.Leaf.TheVariants.{Punct}
use Rattle.item_tree.specs.KnownNames.{name_eq, attributes_name}
use Rattle.item_tree.specs.TokenTrees.{TtElement, token, group, element_ident, subtree_idents}

-- a derive's name and its helper attributes
pub record NameAndHelpers : Type 0 where
  pub name : Name
  pub helpers : List Name

-- whether a token is a comma
abbrev pub leaf_is_comma : Leaf → Bool
leaf_is_comma (Punct c) = nat_eq c 44
leaf_is_comma _ = false

-- whether an element is a comma
abbrev pub is_comma : TtElement → Bool
is_comma (token leaf) = leaf_is_comma leaf
is_comma (group inside) = false

-- whether an identifier is there, and is this name
abbrev pub is_word : Option Name → Name → Bool
is_word None name = false
is_word (Some ident) name = name_eq ident name

-- a name without helpers
abbrev pub alone : Option Name → Option NameAndHelpers
alone name = option_map (λ n. record { name = n; helpers = [] }) name

-- a name and the helpers of a group, where both are there
abbrev pub grouped : Option Name → Option (List Name) → Option NameAndHelpers
grouped None helpers = None
grouped (Some name) helpers = option_map (λ h. record { name = name; helpers = h }) helpers

-- `Name`, or `Name, attributes(helper, ..)`, and nothing else
abbrev pub name_and_helpers : List TtElement → Option NameAndHelpers
name_and_helpers (name ∷ []) = alone (element_ident name)
name_and_helpers (name ∷ comma ∷ word ∷ helpers ∷ []) =
    cond (is_comma comma && is_word (element_ident word) attributes_name) (grouped (element_ident name) (subtree_idents helpers)) None
name_and_helpers _ = None
