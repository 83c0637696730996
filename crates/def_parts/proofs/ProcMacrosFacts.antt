-- The shapes of derive declarations.
use Rattle.std.proofs.Common.{◌≡◌, ℕ, Some, None, [], ◌∷◌, refl}
use Rattle.tree_ids.specs.declared.name.Name.{Name}
use Rattle.item_tree.specs.declared.tt.Leaf.TheVariants.{Ident, Punct}
use Rattle.item_tree.specs.TokenTrees.{TtElement, token, group, no_trees, leaf, TokenTrees}
use Rattle.item_tree.specs.KnownNames.{attributes_name}
use Rattle.def_readings.specs.DeriveNames.{name_and_helpers}
use Rattle.def_readings.specs.ProcMacros.{derive_macro, derive}

abbrev name : ℕ → Name
name n = record { 0 = n }

abbrev ident : Name → TtElement
ident n = token (Ident n)

abbrev comma : TtElement
comma = token (Punct 44)

-- `helper1, helper2`
abbrev two : TokenTrees
two = leaf (Ident (name 41)) (leaf (Punct 44) (leaf (Ident (name 42)) no_trees))

-- `(Trait)`
alone : name_and_helpers (ident (name 40) ∷ []) ≡ Some (record { name = name 40; helpers = [] })
alone = refl

-- `(Trait, attributes(helper1, helper2))`
with_helpers : name_and_helpers (ident (name 40) ∷ comma ∷ ident attributes_name ∷ group two ∷ []) ≡ Some (record { name = name 40; helpers = name 41 ∷ name 42 ∷ [] })
with_helpers = refl

-- `(Trait,)`
with_comma : name_and_helpers (ident (name 40) ∷ comma ∷ []) ≡ None
with_comma = refl

-- `()`
nothing : name_and_helpers [] ≡ None
nothing = refl

-- `(Trait, attributes)`
no_group : name_and_helpers (ident (name 40) ∷ comma ∷ ident attributes_name ∷ []) ≡ None
no_group = refl

-- `(Trait, helpers(helper1))`
other_word : name_and_helpers (ident (name 40) ∷ comma ∷ ident (name 43) ∷ group two ∷ []) ≡ None
other_word = refl

-- `(Trait, attributes helper)`
no_list : name_and_helpers (ident (name 40) ∷ comma ∷ ident attributes_name ∷ ident (name 41) ∷ []) ≡ None
no_list = refl

-- `(, attributes())`
no_name : name_and_helpers (comma ∷ comma ∷ ident attributes_name ∷ group no_trees ∷ []) ≡ None
no_name = refl

-- a derive that is not read keeps its function's name
unread : derive_macro (name 50) None ≡ record { name = name 50; kind = derive [] }
unread = refl
