-- Items that wait for attributes, and the place that one left.
use Rattle.std.proofs.Common.{◌≡◌, ◌+◌, ◌<◌, ℕ, List, [], ◌∷◌, ◌++◌, Contains, length, take, get_or, slice_get, Option, Some, None, inl, inr, sym, subst, ◌∙◌, arith}
use Rattle.std.specs.Prelude.{IfNone, IsPermutation, false, is_some}
use Rattle.std.specs.List.{insert}
use Rattle.std.proofs.lemmas.List.{get_or_default, same_from_push}
use Rattle.std.proofs.lemmas.Option.{same_Some, slice_get-get_or}
use Rattle.std.proofs.lemmas.List.Elements.{Contains-append_cases, Contains-push_cases}
use Rattle.std.proofs.lemmas.List.Sorted.{IsPermutation-insert, IsPermutation-map, IsPermutation-to_front, IsPermutation-trans}
use Rattle.def_calls.specs.declared.directives.MacroDirective.{MacroDirective}
use Rattle.def_calls.specs.Shown.{kind_of, macro_directive_of, macros_in}
use Rattle.def_calls.proofs.WaitingLemmas.{macros_more}
use Rattle.def_rules.specs.Settled.{IsNoAttribute}
use Rattle.def_rules.specs.Waiting as waits

none_in : {X : Type 0} (x : X) → Contains [] x → ⊥
none_in x h = let wrong = h.1 in absurd (omega arith)

only_in : {X : Type 0} (x y : X) → Contains (x ∷ []) y → y ≡ x
only_in x y h = elim (Contains-push_cases [] x y h) [ inl none ↦ absurd (none_in y none) | inr same ↦ sym same ]

-- none of these waits for an attribute
abbrev pub HasNoItem : List MacroDirective → Type 0
HasNoItem ds = (d : waits.MacroDirective) → Contains (macros_in ds) d → IsNoAttribute d.kind

pub no_item_yet : HasNoItem []
no_item_yet d h = absurd (none_in d h)

-- nor does one more
pub no_item_more : (ds : List MacroDirective) (i : ℕ) → i < length ds → ((x : MacroDirective) → slice_get ds i ≡ Some x → IsNoAttribute (kind_of x.kind)) → HasNoItem (take i ds) → HasNoItem (take (i + 1) ds)
no_item_more [] i within none before d h = absurd (omega (arith, within))
no_item_more (y ∷ ds) i within none before d h =
    let x : MacroDirective = get_or (y ∷ ds) i y in
    let here = slice_get-get_or (y ∷ ds) i y within in
    let more = macros_more (y ∷ ds) i x within (get_or_default (y ∷ ds) i y x within) in
    elim (Contains-append_cases (macros_in (take i (y ∷ ds))) (macro_directive_of x ∷ []) d (subst (λ l. Contains l d) more h)) [
      | inl old ↦ before d old
      | inr new ↦ subst (λ (z : waits.MacroDirective). IsNoAttribute z.kind) (sym (only_in (macro_directive_of x) d new)) (none x here)
    ]

-- what stands at a place waits for no attribute
pub no_attribute_at : (ds : List MacroDirective) (i : ℕ) (known : MacroDirective) → slice_get ds i ≡ Some known → IsNoAttribute (kind_of known.kind) → (d : MacroDirective) → slice_get ds i ≡ Some d → IsNoAttribute (kind_of d.kind)
no_attribute_at ds i known here none d at = subst (λ (x : MacroDirective). IsNoAttribute (kind_of x.kind)) (same_Some known d (sym here ∙ at)) none

-- what holds where there is nothing
pub where_none : {X P : Type 0} (o : Option X) → false ≡ is_some o → IfNone o P → P
where_none None none p = p
where_none (Some x) none p = absurd cc

-- the last goes to another place
pub last_moved : (ds : List MacroDirective) (last : MacroDirective) (i : ℕ) → IsPermutation (macros_in (ds ++ last ∷ [])) (macros_in (insert ds i last))
last_moved ds last i =
    IsPermutation-map macro_directive_of (ds ++ last ∷ []) (insert ds i last)
    (IsPermutation-trans (ds ++ last ∷ []) (last ∷ ds) (insert ds i last) (IsPermutation-to_front ds last) (IsPermutation-insert ds i last))

-- it fills the place of one that left
pub last_fills : (before rest : List MacroDirective) (last x : MacroDirective) (i : ℕ) (old new : List MacroDirective) → old ≡ before ++ last ∷ [] → old ≡ rest ++ x ∷ [] → new ≡ insert rest i x → new ≡ insert before i last
last_fills before rest last x i old new stood popped put =
    let same = same_from_push rest before x last (sym popped ∙ stood) in
    put ∙ (λ j. insert (same.0 j) i (same.1 j))
