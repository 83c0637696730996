-- The law of a bound name: it stands for something, so that what is found and what is bound are one.
use Rattle.std.proofs.Common.{◌≡◌, Bool, true, false, not, ◌&&◌, ◌||◌, List, Option, Some, None, refl, ap, sym, ◌∙◌}
use Rattle.std.specs.Prelude.{is_some, IsFalse}
use Rattle.tree_ids.specs.declared.name.Name.{Name}
use Rattle.def_ids.specs.declared.ids.MapId.{MapId}
use Rattle.def_ids.specs.declared.ids.ModuleId.{ModuleId}
use Rattle.def_bindings.specs.declared.bindings.Namespace.{Namespace}
use Rattle.def_bindings.specs.declared.bindings.Namespace.TheVariants.{Types, Values, Macros}
use Rattle.def_bindings.specs.declared.bindings.Binding.{Binding}
use Rattle.def_tables.specs.declared.bound_name.BoundName.{BoundName}
use Rattle.def_tables.specs.declared.bound_name.BoundName.TheVariants.{One, Each}
use Rattle.def_tables.specs.declared.part.Part.{Part}
use Rattle.def_tables.specs.declared.part.Part.TheVariants.{Vacant, Numbers, Whole}
use Rattle.def_tables.specs.declared.parts.Parts.{Parts}
use Rattle.def_tables.specs.declared.place.OwnPlace.{OwnPlace}
use Rattle.def_tables.specs.declared.place.Placed.{Placed}
use Rattle.def_bindings.specs.Content.{AreTied}
use Rattle.def_tables.specs.BoundName.{meaning_of, stands_for}
use Rattle.def_tables.specs.Parts.{all_vacant, is_vacant, part_in, parts_in}
use Rattle.def_tables.specs.Places.{AreListed, bindings_of, name_of}

module _ {V K : Type 0} (meaning : MapId → K → V) (map : MapId) where
  -- what is not vacant is bound
  bound-part : (p : Part V K) → is_some (part_in meaning map p) ≡ not (is_vacant p)
  bound-part Vacant = refl
  bound-part (Numbers short) = refl
  bound-part (Whole b) = refl

  parts-some : (p : Parts V K) → IsFalse (all_vacant p) → (is_some (parts_in meaning map p Types) || (is_some (parts_in meaning map p Values) || is_some (parts_in meaning map p Macros))) ≡ true
  parts-some p h = rw (bound-part p.types, bound-part p.values, bound-part p.macros) (some (is_vacant p.types) (is_vacant p.values) (is_vacant p.macros) h)
    where
      some : (a b c : Bool) → IsFalse (a && b && c) → (not a || (not b || not c)) ≡ true
      some false b c h = refl
      some true false c h = refl
      some true true false h = refl
      some true true true h = cc

  -- a name always stands for something
  pub stands-some : (s : BoundName V K) → (is_some (stands_for meaning map s Types) || (is_some (stands_for meaning map s Values) || is_some (stands_for meaning map s Macros))) ≡ true
  stands-some (One Types kind source idx def vis import) = refl
  stands-some (One Values kind source idx def vis import) = refl
  stands-some (One Macros kind source idx def vis import) = refl
  stands-some (Each each) = parts-some each.value.parts each.value.some

  -- what is found stands for something, and so is bound
  pub known-bound : (s : Option (BoundName V K)) (f : Namespace → Option (Binding V)) → f ≡ meaning_of meaning map s → is_some s ≡ (is_some (f Types) || (is_some (f Values) || is_some (f Macros)))
  known-bound None f h = ap (λ g. is_some (g Types) || (is_some (g Values) || is_some (g Macros))) (sym h)
  known-bound (Some s) f h = sym (ap (λ g. is_some (g Types) || (is_some (g Values) || is_some (g Macros))) h ∙ stands-some s)

  module _ (own : List (OwnPlace × BoundName V K)) (others : List (Placed Name × BoundName V K)) (names : ModuleId → List Name) where
    -- names that are listed where they have something are listed where they are bound
    pub listed-tied : AreListed (name_of map own others) names → AreTied (bindings_of meaning map own others) names
    listed-tied listed m x = listed m x ∙ known-bound (name_of map own others m x) (bindings_of meaning map own others m x) refl

    pub tied-listed : AreTied (bindings_of meaning map own others) names → AreListed (name_of map own others) names
    tied-listed tied m x = tied m x ∙ sym (known-bound (name_of map own others m x) (bindings_of meaning map own others m x) refl)
