-- What is asked of the maps around a block, one after the other, until one has it.
use Rattle.std.proofs.Common.{◌≡◌, ◌∙◌, ap, sym, refl, ◌+◌, ◌<◌, ◌≤◌, ℕ, true, false, List, [], ◌∷◌, ◌++◌, length, take, drop, get_or, drop-cons, add-one, Option, Some, None, is_some}
use Rattle.std.proofs.lemmas.List.{at_drop_all, take_more}
use Rattle.std.specs.Option.{option_or}
use Rattle.def_ids.specs.declared.ids.ModuleId.{ModuleId}

-- what modules have, but for the maps of the modules before
module _ {A : Type 0} (around : List ModuleId → List ModuleId → Option A) where
  -- what the next module adds
  abbrev pub IsNext : List ModuleId → ModuleId → Option A → Type 0
  IsNext before place found = (rest : List ModuleId) → around before (place ∷ rest) ≡ option_or found (around (before ++ place ∷ []) rest)

  -- the rest of the modules, from one on
  around-cons : (places : List ModuleId) (i : ℕ) (d : ModuleId) → i < length places → around (take i places) (drop i places) ≡ around (take i places) (get_or places i d ∷ drop (i + 1) places)
  around-cons places i d within = ap (around (take i places)) (drop-cons places i d within ∙ ap (λ j. get_or places i d ∷ drop j places) (sym (add-one i)))

  -- where the next one has none, the rest is asked
  pub around-step : (places : List ModuleId) (i : ℕ) (d : ModuleId) (found whole : Option A) → i < length places → IsNext (take i places) (get_or places i d) found → is_some found ≡ false
      → around (take i places) (drop i places) ≡ whole → around (take (i + 1) places) (drop (i + 1) places) ≡ whole
  around-step places i d found whole within next none all =
      ap (λ b. around b (drop (i + 1) places)) (take_more places i d within)
      ∙ or_none found (around (take i places ++ get_or places i d ∷ []) (drop (i + 1) places)) none
      ∙ sym (next (drop (i + 1) places))
      ∙ sym (around-cons places i d within)
      ∙ all
    where
      or_none : (o rest : Option A) → is_some o ≡ false → rest ≡ option_or o rest
      or_none None rest none = refl
      or_none (Some x) rest none = cc

  -- where it has one, that is the first
  pub around-found : (places all : List ModuleId) (i : ℕ) (d : ModuleId) (found : Option A) → i < length places → IsNext (take i places) (get_or places i d) found → is_some found ≡ true
      → around (take i places) (drop i places) ≡ around [] places → places ≡ all → found ≡ around [] all
  around-found places all i d found within next some rest same =
      or_some found (around (take i places ++ get_or places i d ∷ []) (drop (i + 1) places)) some
      ∙ sym (next (drop (i + 1) places))
      ∙ sym (around-cons places i d within)
      ∙ rest
      ∙ ap (around []) same
    where
      or_some : (o rest : Option A) → is_some o ≡ true → o ≡ option_or o rest
      or_some None rest some = cc
      or_some (Some x) rest some = refl

  -- where none is left, there is none
  pub around-none : ((before : List ModuleId) → around before [] ≡ None) → (places all : List ModuleId) (i : ℕ) → length places ≤ i
      → around (take i places) (drop i places) ≡ around [] places → places ≡ all → None ≡ around [] all
  around-none none places all i end rest same =
      sym (none (take i places)) ∙ sym (at_drop_all (around (take i places)) places i end) ∙ rest ∙ ap (around []) same
