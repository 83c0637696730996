-- What attributes say, at worked rows.
use Rattle.std.specs.Prelude.{◌≡◌, true, false, Option, None, Some, List, [], ◌∷◌, codes, refl}
use Rattle.item_tree.specs.declared.attrs.Attr.{Attr}
use Rattle.item_tree.specs.declared.attrs.AttrInput.TheVariants.{Str, TokenTree}
use Rattle.item_tree.specs.declared.attrs.AttrInput.{AttrInput}
use Rattle.item_tree.specs.declared.attrs.AttrsOrCfg.TheVariants.{Enabled, CfgDisabled}
use Rattle.item_tree.specs.declared.mod_path.PathKind.TheVariants.{Plain, Super}
use Rattle.tree_ids.specs.declared.name.Name.{Name}
use Rattle.item_tree.specs.declared.tt.Leaf.TheVariants.{Ident, Punct}
use Rattle.item_tree.specs.KnownNames.{path_name, test_name, macro_use_name, feature_name, self_name}
use Rattle.item_tree.specs.Attrs.{by_key, has_attr, string_value, tt_values, iter_after, attrs_of, disabled_by, path_attr}
use Rattle.item_tree.specs.Paths.{as_ident}
use Rattle.item_tree.specs.TokenTrees.{TokenTrees, no_trees, leaf, subtree, token, group, elements, idents, element_ident, subtree_idents}

-- an attribute of one segment
abbrev attr : Name → Option AttrInput → Attr
attr name input = record { path = record { kind = Plain; segments = name ∷ [] }; input = input; ctxt = record { 0 = 0 }; paths = None }

-- `a, b`
abbrev tokens : Name → Name → TokenTrees
tokens a b = leaf (Ident a) (leaf (Punct 44) (leaf (Ident b) no_trees))

-- `#[test]`
abbrev test_attr : Attr
test_attr = attr test_name None

-- `#[path(self, test)]`
abbrev path_list : Attr
path_list = attr path_name (Some (TokenTree (tokens self_name test_name)))

-- `#[path = "a.rs"]`
abbrev path_a : Attr
path_a = attr path_name (Some (Str (codes "a.rs")))

-- `#[path = "b.rs"]`
abbrev path_b : Attr
path_b = attr path_name (Some (Str (codes "b.rs")))

abbrev attrs : List Attr
attrs = path_list ∷ test_attr ∷ path_a ∷ path_b ∷ []

of_one_name : by_key path_name attrs ≡ path_list ∷ path_a ∷ path_b ∷ []
of_one_name = refl

is_there : has_attr test_name attrs ≡ true
is_there = refl

is_not_there : has_attr macro_use_name attrs ≡ false
is_not_there = refl

first_text_of_the_name : string_value path_name attrs ≡ Some (codes "a.rs")
first_text_of_the_name = refl

no_text_of_the_name : string_value test_name attrs ≡ None
no_text_of_the_name = refl

trees_of_the_name : tt_values path_name attrs ≡ tokens self_name test_name ∷ []
trees_of_the_name = refl

identifiers : idents (tokens self_name test_name) ≡ self_name ∷ test_name ∷ []
identifiers = refl

-- the identifiers of `(self, test)` are those between its parentheses, and it is none itself
identifiers_of_a_group : subtree_idents (group (tokens self_name test_name)) ≡ Some (self_name ∷ test_name ∷ [])
identifiers_of_a_group = refl

no_group : subtree_idents (token (Ident test_name)) ≡ None
no_group = refl

group_is_no_identifier : element_ident (group (tokens self_name test_name)) ≡ None
group_is_no_identifier = refl

-- a delimited list is one element, whatever stands in it
elements_of_a_level : elements (subtree (tokens self_name test_name) (leaf (Ident path_name) no_trees))
    ≡ group (tokens self_name test_name) ∷ token (Ident path_name) ∷ []
elements_of_a_level = refl

all_of_them : iter_after None (test_attr ∷ path_a ∷ []) ≡ (record { 0 = 0 }, test_attr) ∷ (record { 0 = 1 }, path_a) ∷ []
all_of_them = refl

behind_the_first : iter_after (Some (record { 0 = 0 })) attrs ≡ (record { 0 = 1 }, test_attr) ∷ (record { 0 = 2 }, path_a) ∷ (record { 0 = 3 }, path_b) ∷ []
behind_the_first = refl

behind_the_last : iter_after (Some (record { 0 = 3 })) attrs ≡ []
behind_the_last = refl

disabled : disabled_by (Some (CfgDisabled (record { 0 = 7 }) (record { list = attrs }))) ≡ Some (record { 0 = 7 })
disabled = refl

enabled : disabled_by (Some (Enabled (record { list = attrs }))) ≡ None
enabled = refl

attributes_of_a_disabled_item : attrs_of (Some (CfgDisabled (record { 0 = 7 }) (record { list = attrs }))) ≡ attrs
attributes_of_a_disabled_item = refl

attributes_of_none : attrs_of None ≡ []
attributes_of_none = refl

-- the first `#[path]` with a text counts, also of an item that is not compiled
path_of_an_item : path_attr (Some (Enabled (record { list = attrs }))) ≡ Some (codes "a.rs")
path_of_an_item = refl

path_of_a_disabled_item : path_attr (Some (CfgDisabled (record { 0 = 7 }) (record { list = path_b ∷ path_a ∷ [] }))) ≡ Some (codes "b.rs")
path_of_a_disabled_item = refl

path_without_text : path_attr (Some (Enabled (record { list = path_list ∷ test_attr ∷ [] }))) ≡ None
path_without_text = refl

plain_name : as_ident (record { kind = Plain; segments = feature_name ∷ [] }) ≡ Some feature_name
plain_name = refl

longer_path : as_ident (record { kind = Plain; segments = feature_name ∷ test_name ∷ [] }) ≡ None
longer_path = refl

name_behind_self : as_ident (record { kind = Super 0; segments = feature_name ∷ [] }) ≡ None
name_behind_self = refl

-- the name `self` as a segment is an identifier like others; the path `self` has no segment
no_segment : as_ident (record { kind = Super 0; segments = [] }) ≡ None
no_segment = refl
