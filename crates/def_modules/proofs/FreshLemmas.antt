-- Modules and maps with nothing in them, and what shows it.
use Rattle.std.proofs.Common.{◌≡◌, ℕ, suc, Bool, true, false, ◌==◌, not, ◌||◌, cond, List, [], ◌∷◌, Option, Some, None, refl, sym, ap, ◌∙◌, inl, inr, slice_get, length}
use Rattle.std.specs.Prelude.{unwrap_or, is_some}
use Rattle.std.specs.List.{list_any, list_all}
use Rattle.std.specs.Map.{lookup}
use Rattle.std.proofs.lemmas.Bool.{cases_Bool, eqb-true}
use Rattle.std.proofs.lemmas.List.{nil_from_length}
use Rattle.indexmap.specs.IndexMap.{IndexMap, get}
use Rattle.indexmap.specs.IndexSet.{IndexSet, contains}

-- where every list is empty, so is that of each key
pub none_under : {K V : Type 0} (es : List (K × List V)) (test : K → Bool) → ((j : ℕ) (e : K × List V) → slice_get es j ≡ Some e → e.1 ≡ []) → unwrap_or (lookup test es) [] ≡ []
none_under [] test h = refl
none_under (e ∷ es) test h =
    elim (cases_Bool (test e.0)) [
      | inl t ↦ rw t (h 0 e refl)
      | inr f ↦ rw f (none_under es test (λ j x at. h (suc j) x at))
    ]

-- all of these are true
abbrev pub AllTrue : List Bool → Type 0
AllTrue [] = Unit {0}
AllTrue (t ∷ ts) = (t ≡ true) × AllTrue ts

pub all_true : (ts : List Bool) → list_all (λ b. b) ts ≡ true → AllTrue ts
all_true [] h = tt
all_true (true ∷ ts) h = (refl, all_true ts h)
all_true (false ∷ ts) h = cc

pub true_all : (ts : List Bool) → AllTrue ts → list_all (λ b. b) ts ≡ true
true_all [] h = refl
true_all (true ∷ ts) h = true_all ts h.1
true_all (false ∷ ts) h = let wrong : false ≡ true = h.0 in cc

module _ {K X : Type 0} (eq : K → K → Bool) (itself : (k : K) → eq k k ≡ true) where
  no_keys_by : (es : List (K × X)) → ((k : K) → lookup (eq k) es ≡ None) → es ≡ []
  no_keys_by [] f = refl
  no_keys_by (e ∷ es) f =
      let there : lookup (eq e.0) (e ∷ es) ≡ Some e.1 = ap (λ b. cond b (Some e.1) (lookup (eq e.0) es)) (itself e.0) in
      cc (f e.0)

  -- a map without keys, by a test that each key passes for itself
  pub no_keys : {S : Type 0} (m : IndexMap K X S) → get eq m ≡ (λ k. None) → m.entries ≡ []
  no_keys m h = no_keys_by m.entries (λ k. λ i. h i k)

  pub keys_none : {S : Type 0} (m : IndexMap K X S) → m.entries ≡ [] → get eq m ≡ (λ k. None)
  keys_none m h = rw h refl

module _ {K : Type 0} (eq : K → K → Bool) (itself : (k : K) → eq k k ≡ true) where
  no_members_by : (ks : List K) → ((k : K) → list_any (eq k) ks ≡ false) → ks ≡ []
  no_members_by [] f = refl
  no_members_by (k ∷ ks) f =
      let there : list_any (eq k) (k ∷ ks) ≡ true = ap (λ b. b || list_any (eq k) ks) (itself k) in
      cc (f k)

  -- a set without keys
  pub no_members : {S : Type 0} (s : IndexSet K S) → contains eq s ≡ (λ k. false) → s.keys ≡ []
  no_members s h = no_members_by s.keys (λ k. λ i. h i k)

  pub members_none : {S : Type 0} (s : IndexSet K S) → s.keys ≡ [] → contains eq s ≡ (λ k. false)
  members_none s h = rw h refl

-- the value of an entry that is met in two ways
pub value_met : {K V : Type 0} (k : K) (v : V) (e : K × V) (o : Option (K × V)) → Some (k, v) ≡ o → o ≡ Some e → e.1 ≡ v
value_met k v e o met at = let same : e ≡ (k, v) = cc in ap (λ (p : _ × _). p.1) same

-- a test of a list's length
pub seq_empty : {X : Type 0} (xs : List X) (b : Bool) → b ≡ (length xs == 0) → b ≡ true → xs ≡ []
seq_empty xs b is h = nil_from_length xs (eqb-true (length xs) 0 (sym is ∙ h))

pub empty_seq : {X : Type 0} (xs : List X) (b : Bool) → b ≡ (length xs == 0) → xs ≡ [] → b ≡ true
empty_seq xs b is h = is ∙ ap (λ ys. length ys == 0) h

pub none_value : {X : Type 0} (o : Option X) (b : Bool) → is_some o ≡ not b → b ≡ true → o ≡ None
none_value None b is h = refl
none_value (Some x) true is h = cc
none_value (Some x) false is h = cc

pub value_none : {X : Type 0} (o : Option X) (b : Bool) → is_some o ≡ not b → o ≡ None → b ≡ true
value_none None true is h = refl
value_none None false is h = cc
value_none (Some x) b is h = cc

pub not_true : (b : Bool) → not b ≡ true → b ≡ false
not_true true h = cc
not_true false h = refl

pub true_not : (b : Bool) → b ≡ false → not b ≡ true
true_not b h = ap not h
