-- Imports in two lists of their numbers.
use Rattle.std.proofs.Common.{◌≡◌, ◌⊎◌, ◌||◌, ℕ, zero, suc, Bool, true, false, cond, nat_eq, List, [], ◌∷◌, ◌++◌, filter, length, All, Option, Some, None, slice_get, slice_set, option_and_then, IfSome, refl, sym, ap, subst, ◌∙◌, inl, inr}
use Rattle.std.proofs.lemmas.Bool.{cases_Bool}
use Rattle.std.proofs.lemmas.Bool.Decides.{eqb_tells}
use Rattle.std.proofs.lemmas.List.Elements.{All-map}
use Rattle.std.proofs.lemmas.List.Folds.{list_any-append}
use Rattle.std.proofs.lemmas.Map.Views.{any-filter_same}
use Rattle.def_rules.specs.Imports.{is_empty}
use Rattle.def_rules.specs.State as rules
use Rattle.def_steps.specs.declared.directive.ImportDirective.{ImportDirective}
use Rattle.def_steps.specs.declared.import_lists.ImportAt.{ImportAt}
use Rattle.def_steps.specs.declared.directive.NamespaceSet.{NamespaceSet}
use Rattle.def_steps.specs.declared.import_lists.ImportList.{ImportList}
use Rattle.def_steps.specs.declared.import_lists.ImportList.TheVariants.{Unresolved, Indeterminate}
use Rattle.def_steps.specs.declared.import_lists.PendingImports.{PendingImports}
use Rattle.def_steps.specs.ImportLists.{IsInOrder, IsRetired, import_at, numbers_in, pending, present}
use Rattle.def_steps.specs.Listed.{IsListed, entry_in, has_number, is_in, kept_entry, stands_in}
use Rattle.def_steps.specs.Shown.{directive_of, directives_kept, kept_with, ns_set}
use Rattle.def_steps.proofs.ImportListsLaws.{present-all, retired}

-- an entry of a list in which one was set is that one, or was there
set-cases : {A : Type 0} (xs : List A) (i j : ℕ) (y x : A) → slice_get (slice_set xs i y) j ≡ Some x → ((j ≡ i) × (x ≡ y)) ⊎ (slice_get xs j ≡ Some x)
set-cases [] i j y x h = inr h
set-cases (e ∷ xs) zero zero y x h = inl (refl, cc)
set-cases (e ∷ xs) zero (suc j) y x h = inr h
set-cases (e ∷ xs) (suc i) zero y x h = inr h
set-cases (e ∷ xs) (suc i) (suc j) y x h = elim (set-cases xs i j y x h) [
  | inl w ↦ inl (ap suc w.0, w.1)
  | inr w ↦ inr w
]

-- so of one to which one was appended
push-cases : {A : Type 0} (xs : List A) (j : ℕ) (y x : A) → slice_get (xs ++ y ∷ []) j ≡ Some x → ((j ≡ length xs) × (x ≡ y)) ⊎ (slice_get xs j ≡ Some x)
push-cases [] zero y x h = inl (refl, cc)
push-cases [] (suc j) y x h = inr h
push-cases (e ∷ xs) zero y x h = inr h
push-cases (e ∷ xs) (suc j) y x h = elim (push-cases xs j y x h) [
  | inl w ↦ inl (ap suc w.0, w.1)
  | inr w ↦ inr w
]

same_number : (n : ℕ) → nat_eq n n ≡ true
same_number n = elim (eqb_tells n n) [
  | inl w ↦ w.0
  | inr w ↦ absurd (w.1 refl)
]

or_true : (a : Bool) → a || true ≡ true
or_true true = refl
or_true false = refl

-- a list has the numbers that it had, and the last one
pub has-before : (xs ys : List ℕ) (n : ℕ) → has_number xs n ≡ true → has_number (xs ++ ys) n ≡ true
has-before xs ys n has = list_any-append (nat_eq n) xs ys ∙ ap (λ b. b || has_number ys n) has

pub has-last : (xs : List ℕ) (n : ℕ) → has_number (xs ++ n ∷ []) n ≡ true
has-last xs n = list_any-append (nat_eq n) xs (n ∷ []) ∙ ap (λ b. has_number xs n || (b || false)) (same_number n) ∙ or_true (has_number xs n)

-- and each that stands at a place
pub has-at : (xs : List ℕ) (i n : ℕ) → slice_get xs i ≡ Some n → has_number xs n ≡ true
has-at [] i n h = absurd cc
has-at (x ∷ xs) zero n h = let same : x ≡ n = cc in ap (λ b. b || has_number xs n) (subst (λ m. nat_eq n m ≡ true) (sym same) (same_number n))
has-at (x ∷ xs) (suc i) n h = ap (λ b. nat_eq n x || b) (has-at xs i n h) ∙ or_true (nat_eq n x)

-- where a number stands that a list has
pub record Stands (xs : List ℕ) (n : ℕ) : Type 0 where
  pub index : ℕ
  pub is : slice_get xs index ≡ Some n

pub place-of : (xs : List ℕ) (n : ℕ) → has_number xs n ≡ true → Stands xs n
place-of [] n has = absurd cc
place-of (x ∷ xs) n has = elim (eqb_tells n x) [
  | inl w ↦ record { index = 0; is = ap (λ m. Some m) (sym w.1) }
  | inr w ↦ let rest = place-of xs n (ap (λ b. b || has_number xs n) (sym w.0) ∙ has) in record { index = suc rest.index; is = rest.is }
]

pub none-listed : (unresolved indeterminate : List ℕ) → IsListed [] unresolved indeterminate
none-listed unresolved indeterminate number d h = absurd cc

module _ (entries : List (Option ImportDirective)) (unresolved indeterminate : List ℕ) (listed : IsListed entries unresolved indeterminate) where
  -- imports stay listed while a list gets longer
  pub listed-more : (is : List ℕ) → IsListed entries unresolved (indeterminate ++ is)
  listed-more is number d h = elim (cases_Bool (is_empty (ns_set d.recorded))) [
    | inl e ↦ rw e (ap (λ b. has_number (cond b unresolved indeterminate) number) (sym e) ∙ listed number d h)
    | inr e ↦ rw e (has-before indeterminate is number (ap (λ b. has_number (cond b unresolved indeterminate) number) (sym e) ∙ listed number d h))
  ]

  pub listed-more-unresolved : (us : List ℕ) → IsListed entries (unresolved ++ us) indeterminate
  listed-more-unresolved us number d h = elim (cases_Bool (is_empty (ns_set d.recorded))) [
    | inl e ↦ rw e (has-before unresolved us number (ap (λ b. has_number (cond b unresolved indeterminate) number) (sym e) ∙ listed number d h))
    | inr e ↦ rw e (ap (λ b. has_number (cond b unresolved indeterminate) number) (sym e) ∙ listed number d h)
  ]

  -- one more is listed, if it is unresolved
  pub listed-pushed : (d : ImportDirective) → is_empty (ns_set d.recorded) ≡ true → IsListed (entries ++ Some d ∷ []) (unresolved ++ length entries ∷ []) indeterminate
  listed-pushed d empty number e h = elim (push-cases entries number (Some d) (Some e) h) [
    | inl w ↦
        let same : e ≡ d = cc in
        ap (λ b. has_number (cond b (unresolved ++ length entries ∷ []) indeterminate) number) (ap (λ (x : ImportDirective). is_empty (ns_set x.recorded)) same ∙ empty)
        ∙ ap (has_number (unresolved ++ length entries ∷ [])) w.0 ∙ has-last unresolved (length entries)
    | inr w ↦ elim (cases_Bool (is_empty (ns_set e.recorded))) [
      | inl is ↦ rw is (has-before unresolved (length entries ∷ []) number (ap (λ b. has_number (cond b unresolved indeterminate) number) (sym is) ∙ listed number e w))
      | inr is ↦ rw is (ap (λ b. has_number (cond b unresolved indeterminate) number) (sym is) ∙ listed number e w)
    ]
  ]

  -- so it is where memory may be refused
  pub listed-more-if : (is_ok : Bool) (is : List ℕ) → IsListed entries unresolved (cond is_ok (indeterminate ++ is) indeterminate)
  listed-more-if true is = listed-more is
  listed-more-if false is = listed

  pub listed-pushed-if : (is_ok : Bool) (d : ImportDirective) → is_empty (ns_set d.recorded) ≡ true → IsListed (cond is_ok (entries ++ Some d ∷ []) entries) (unresolved ++ length entries ∷ []) indeterminate
  listed-pushed-if true d empty = listed-pushed d empty
  listed-pushed-if false d empty = listed-more-unresolved (length entries ∷ [])

  -- where one entry changes, the others stay listed
  pub listed-set : (i : ℕ) (entry : Option ImportDirective) → ((d : ImportDirective) → entry ≡ Some d → has_number (cond (is_empty (ns_set d.recorded)) unresolved indeterminate) i ≡ true)
      → IsListed (slice_set entries i entry) unresolved indeterminate
  listed-set i entry is number d h = elim (set-cases entries i number entry (Some d) h) [
    | inl w ↦ ap (has_number (cond (is_empty (ns_set d.recorded)) unresolved indeterminate)) w.0 ∙ is d (sym w.1)
    | inr w ↦ listed number d w
  ]

  -- what stands there stays listed, where a list drops the rest
  pub listed-unresolved : IsListed entries (filter (stands_in Unresolved entries) unresolved) indeterminate
  listed-unresolved number d h = elim (cases_Bool (is_empty (ns_set d.recorded))) [
    | inl e ↦
        rw e
        (any-filter_same (nat_eq number) (stands_in Unresolved entries) true (λ k is. elim (eqb_tells number k) [
          | inl w ↦ subst (λ m. stands_in Unresolved entries m ≡ true) w.1 (rw h (rw e refl))
          | inr w ↦ absurd cc
        ]) unresolved
        ∙ ap (λ b. has_number (cond b unresolved indeterminate) number) (sym e) ∙ listed number d h)
    | inr e ↦ rw e (ap (λ b. has_number (cond b unresolved indeterminate) number) (sym e) ∙ listed number d h)
  ]

  pub listed-indeterminate : IsListed entries unresolved (filter (stands_in Indeterminate entries) indeterminate)
  listed-indeterminate number d h = elim (cases_Bool (is_empty (ns_set d.recorded))) [
    | inl e ↦ rw e (ap (λ b. has_number (cond b unresolved indeterminate) number) (sym e) ∙ listed number d h)
    | inr e ↦
        rw e
        (any-filter_same (nat_eq number) (stands_in Indeterminate entries) true (λ k is. elim (eqb_tells number k) [
          | inl w ↦ subst (λ m. stands_in Indeterminate entries m ≡ true) w.1 (rw h (rw e refl))
          | inr w ↦ absurd cc
        ]) indeterminate
        ∙ ap (λ b. has_number (cond b unresolved indeterminate) number) (sym e) ∙ listed number d h)
  ]

-- what stays of an entry is listed, where its number is among those of indeterminate imports
pub kept-listed : (unresolved indeterminate : List ℕ) (entry : Option ImportDirective) (kept : Option NamespaceSet) (number : ℕ)
    → IfSome kept (λ r. (is_empty (ns_set r) ≡ false) × (has_number indeterminate number ≡ true))
    → (d : ImportDirective) → kept_entry entry kept ≡ Some d → has_number (cond (is_empty (ns_set d.recorded)) unresolved indeterminate) number ≡ true
kept-listed unresolved indeterminate None kept number known d h = absurd cc
kept-listed unresolved indeterminate (Some e) None number known d h = absurd cc
kept-listed unresolved indeterminate (Some e) (Some r) number known d h =
    let same : record { import = e.import; recorded = r } ≡ d = cc in
    subst (λ (x : ImportDirective). has_number (cond (is_empty (ns_set x.recorded)) unresolved indeterminate) number ≡ true) same (rw known.0 known.1)

-- an import that stands at a place is there
pub entry-there : (list : ImportList) (entry : Option (Option ImportDirective)) (d : ImportDirective) → option_and_then (entry_in list) entry ≡ Some d → entry ≡ Some (Some d)
entry-there list None d h = absurd cc
entry-there list (Some None) d h = absurd cc
entry-there list (Some (Some e)) d h = elim (cases_Bool (is_in list (ns_set e.recorded))) [
  | inl there ↦ let same : Some e ≡ Some d = sym (rw there refl) ∙ h in ap (λ x. Some x) same
  | inr other ↦ let none : None ≡ Some d = sym (rw other refl) ∙ h in absurd cc
]

-- so it stands under the number that its place has
pub stands_there : (imports : PendingImports) (at : ImportAt) (number : ℕ) (d : ImportDirective) → slice_get (numbers_in at.list imports) at.index ≡ Some number → import_at imports at ≡ Some d
    → slice_get imports.directives.items number ≡ Some (Some d)
stands_there imports at number d placed there =
    entry-there at.list (slice_get imports.directives.items number) d
    (ap (option_and_then (λ n. option_and_then (entry_in at.list) (slice_get imports.directives.items n))) (sym placed) ∙ there)

-- what left its entry, or stays with other namespaces, left the others
pub retired-in-order : (old new : PendingImports) (at : ImportAt) (d : ImportDirective) (kept : Option NamespaceSet) → import_at old at ≡ Some d → IsInOrder old at d kept new
    → IsRetired (pending old) (directive_of d) (directives_kept (kept_with d.import kept)) (pending new)
retired-in-order old new at d kept here order =
    retired old.directives.items new.directives.items order.number d (kept_with d.import kept) (stands_there old at order.number d order.stood here) order.entries

-- what holds of each import at a place of a list holds of all that may still be recorded
pub all-pending : (P : rules.ImportDirective → Type 0) (imports : PendingImports) → ((at : ImportAt) (d : ImportDirective) → import_at imports at ≡ Some d → P (directive_of d)) → All P (pending imports)
all-pending P imports each = All-map P directive_of (present imports.directives.items) (present-all (λ x. P (directive_of x)) imports.directives.items (λ number d h. elim (cases_Bool (is_empty (ns_set d.recorded))) [
  | inl e ↦
      let stands = place-of imports.unresolved.items number (ap (λ b. has_number (cond b imports.unresolved.items imports.indeterminate.items) number) (sym e) ∙ imports.listed number d h) in
      each (record { list = Unresolved; index = stands.index }) d (rw stands.is (rw h (rw e refl)))
  | inr e ↦
      let stands = place-of imports.indeterminate.items number (ap (λ b. has_number (cond b imports.unresolved.items imports.indeterminate.items) number) (sym e) ∙ imports.listed number d h) in
      each (record { list = Indeterminate; index = stands.index }) d (rw stands.is (rw h (rw e refl)))
]))
