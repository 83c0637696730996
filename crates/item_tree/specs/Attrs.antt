-- What attributes say.
use Rattle.std.specs.Prelude.{ℕ, ◌+◌, Bool, Option, None, Some, List, [], ◌∷◌, drop, filter, option_and_then}
use Rattle.std.specs.List.{filter_map}
use Rattle.item_tree.specs.declared.attrs.Attr.{Attr}
use Rattle.item_tree.specs.declared.attrs.AttrInput.{AttrInput}
use Rattle.item_tree.specs.declared.attrs.AttrInput.TheVariants.{Str, TokenTree}
use Rattle.item_tree.specs.declared.attrs.Attrs.{Attrs}
use Rattle.item_tree.specs.declared.attrs.AttrsOrCfg.{AttrsOrCfg}
use Rattle.item_tree.specs.declared.attrs.AttrsOrCfg.TheVariants.{Enabled, CfgDisabled}
use Rattle.tree_ids.specs.declared.ids.AttrId.{AttrId}
use Rattle.tree_ids.specs.declared.ids.CfgExpr.{CfgExpr}
use Rattle.tree_ids.specs.declared.name.Name.{Name}
use Rattle.item_tree.specs.KnownNames.{path_name}
use Rattle.item_tree.specs.Lists.{is_there, first_of_list}
use Rattle.item_tree.specs.Paths.{as_ident, is_ident}
use Rattle.item_tree.specs.TokenTrees.{TokenTrees}

-- whether an attribute's path is this name alone
abbrev pub has_key : Name → Attr → Bool
has_key key attr = is_ident (as_ident attr.path) key

abbrev pub text_of_input : AttrInput → Option (List ℕ)
text_of_input (Str text) = Some text
text_of_input (TokenTree tokens) = None

abbrev pub tokens_of_input : AttrInput → Option TokenTrees
tokens_of_input (Str text) = None
tokens_of_input (TokenTree tokens) = Some tokens

-- the text of an attribute's literal
abbrev pub text_of : Attr → Option (List ℕ)
text_of attr = option_and_then text_of_input attr.input

-- the token tree of an attribute
abbrev pub tokens_of : Attr → Option TokenTrees
tokens_of attr = option_and_then tokens_of_input attr.input

-- the attributes of a name
abbrev pub by_key : Name → List Attr → List Attr
by_key key attrs = filter (has_key key) attrs

-- whether there is an attribute of a name
abbrev pub has_attr : Name → List Attr → Bool
has_attr key attrs = is_there (by_key key attrs)

-- the first text of these attributes
abbrev pub first_text : List Attr → Option (List ℕ)
first_text attrs = first_of_list (filter_map text_of attrs)

-- the first text of the attributes of a name
abbrev pub string_value : Name → List Attr → Option (List ℕ)
string_value key attrs = first_text (by_key key attrs)

-- the token trees of the attributes of a name
abbrev pub tt_values : Name → List Attr → List TokenTrees
tt_values key attrs = filter_map tokens_of (by_key key attrs)

-- attributes with their numbers, the first having this one
abbrev pub numbered_from : ℕ → List Attr → List (AttrId × Attr)
numbered_from i [] = []
numbered_from i (attr ∷ attrs) = (record { 0 = i }, attr) ∷ numbered_from (i + 1) attrs

-- the attributes from the i-th on, with their numbers
abbrev pub numbered_at : ℕ → List Attr → List (AttrId × Attr)
numbered_at i attrs = numbered_from i (drop i attrs)

-- the attributes behind one, or all, with their numbers
abbrev pub iter_after : Option AttrId → List Attr → List (AttrId × Attr)
iter_after None attrs = numbered_at 0 attrs
iter_after (Some id) attrs = numbered_at (id.0 + 1) attrs

-- the attributes, whether they enable their item or not
abbrev pub attrs_in : AttrsOrCfg → Attrs
attrs_in (Enabled attrs) = attrs
attrs_in (CfgDisabled cfg attrs) = attrs

-- the condition that disables the item of these attributes
abbrev pub cfg_in : AttrsOrCfg → Option CfgExpr
cfg_in (Enabled attrs) = None
cfg_in (CfgDisabled cfg attrs) = Some cfg

-- the attributes of an item
abbrev pub attrs_of : Option AttrsOrCfg → List Attr
attrs_of None = []
attrs_of (Some attrs) = (attrs_in attrs).list

-- the condition that disables an item
abbrev pub disabled_by : Option AttrsOrCfg → Option CfgExpr
disabled_by attrs = option_and_then cfg_in attrs

-- the text of an item's `#[path]`, if it has one
abbrev pub path_attr : Option AttrsOrCfg → Option (List ℕ)
path_attr attrs = string_value path_name (attrs_of attrs)
