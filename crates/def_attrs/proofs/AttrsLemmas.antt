-- What is noted of attributes under positions.
use Rattle.std.proofs.Common.{◌≡◌, refl, ap, ◌∙◌, subst, Bool, true, false, cond, ◌&&◌, ◌==◌, List, [], ◌∷◌, ◌++◌, Option, Some}
use Rattle.std.proofs.lemmas.Bool.{eq-eqb}
use Rattle.std.specs.Prelude.{unwrap_or}
use Rattle.tree_ids.specs.declared.ids.AttrId.{AttrId}
use Rattle.tree_ids.specs.contracts.ids.HirFileIdPartialEq.TheImpl as files
use Rattle.tree_ids.specs.declared.ids.HirFileId.{HirFileId}
use Rattle.tree_ids.specs.declared.ids.InFile.{InFile}
use Rattle.tree_ids.specs.declared.ids.ModItemId.{ModItemId}
use Rattle.def_attrs.specs.ItemAttrs.{item_eq}
use Rattle.tree_ids.specs.declared.ids.HirFileId.TheVariants.{File, Macro}
use Rattle.def_modules.specs.Equality.{file_eq, position_eq}
use Rattle.def_modules.specs.EqualityLaws.{derived_position_eq, positions_same}
use Rattle.def_modules.specs.KeyedLists.{PushesUnder}
use Rattle.def_modules.specs.MapState.{Position}
use Rattle.def_rules.specs.Attributes.{with_active}
use Rattle.indexmap.specs.IndexMap.{IndexMap, get}

file-refl : (f : HirFileId) → file_eq f f ≡ true
file-refl (File a) = eq-eqb a.0 a.0 refl
file-refl (Macro a) = eq-eqb a.0 a.0 refl

-- a position is itself
pub position-refl : (p : Position) → position_eq p p ≡ true
position-refl p = ap (λ b. b && (p.value.0 == p.value.0)) (file-refl p.file) ∙ eq-eqb p.value.0 p.value.0 refl

-- the attributes under positions
abbrev pub listed : {S : Type 0} → IndexMap Position (List AttrId) S → Position → List AttrId
listed active position = unwrap_or (get position_eq active position) []

-- one attribute more
pub active-added : {S : Type 0} (old new : IndexMap Position (List AttrId) S) (position : Position) (id : AttrId)
    → PushesUnder derived_position_eq (get derived_position_eq old) (get derived_position_eq new) position id → listed new ≡ with_active (listed old) position id
active-added old new position id written = λ i q. at q i
  where
    after : PushesUnder position_eq (get position_eq old) (get position_eq new) position id
    after = let P : (Position → Position → Bool) → Type 0 = λ e. PushesUnder e (get e old) (get e new) position id in subst P positions_same written

    by : (b : Bool) (o : Option (List AttrId)) → unwrap_or (cond b (Some (listed old position ++ id ∷ [])) o) [] ≡ cond b (listed old position ++ id ∷ []) (unwrap_or o [])
    by true o = refl
    by false o = refl

    at : (q : Position) → listed new q ≡ with_active (listed old) position id q
    at q = ap (λ o. unwrap_or o []) (after q) ∙ by (position_eq position q) (get position_eq old q)

-- and it stands there
pub active-there : (active : Position → List AttrId) (position : Position) (id : AttrId) → with_active active position id position ≡ active position ++ id ∷ []
active-there active position id = ap (λ b. cond b (active position ++ id ∷ []) (active position)) (position-refl position)

-- the derived test of items of files
abbrev pub derived_item_eq : InFile ModItemId → InFile ModItemId → Bool
derived_item_eq a b = files.ghosts.eq a.file b.file && (a.value.0 == b.value.0)

-- is that of the definitions
pub items_same : derived_item_eq ≡ item_eq
items_same = λ i a b. positions_same i (record { file = a.file; value = record { 0 = a.value.0 } }) (record { file = b.file; value = record { 0 = b.value.0 } })
