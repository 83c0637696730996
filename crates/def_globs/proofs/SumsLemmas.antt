-- Sums over lists, and every place and visibility that a wave can meet.
use Rattle.std.proofs.Common.{◌≡◌, ◌∙◌, ℕ, ◌+◌, ◌<◌, ◌≤◌, List, [], ◌∷◌, ◌++◌, sym, ap, subst, inl, inr, arith}
use Rattle.std.specs.Prelude.{Contains, map, option_to_list, option_map, Some}
use Rattle.std.proofs.lemmas.List.Elements.{Contains-append_left, Contains-append_right}
use Rattle.def_ids.specs.declared.ids.ModuleId.{ModuleId}
use Rattle.def_bindings.specs.declared.bindings.EdgeTo.{EdgeTo}
use Rattle.def_bindings.specs.declared.bindings.Slot.{Slot}
use Rattle.def_bindings.specs.declared.bindings.Binding.{Binding}
use Rattle.def_bindings.specs.Content.{Content}
use Rattle.def_bindings.specs.Puts.{held}
use Rattle.def_globs.proofs.ListLaws.{first_in, later_in, none_in, in_cases}

-- a sum over a list
abbrev pub total : {X : Type 0} → (X → ℕ) → List X → ℕ
total f [] = 0
total f (x ∷ xs) = f x + total f xs

pub total-push : {X : Type 0} (f : X → ℕ) (xs : List X) (y : X) → total f (xs ++ y ∷ []) ≡ total f xs + f y
total-push f [] y = omega arith
total-push f (x ∷ xs) y = let h = total-push f xs y in omega arith

pub total-append : {X : Type 0} (f : X → ℕ) (xs ys : List X) → total f (xs ++ ys) ≡ total f xs + total f ys
total-append f [] ys = omega arith
total-append f (x ∷ xs) ys = let h = total-append f xs ys in omega arith

pub total-le : {X : Type 0} (f g : X → ℕ) (xs : List X) → ((x : X) → f x ≤ g x) → total f xs ≤ total g xs
total-le f g [] h = omega arith
total-le f g (x ∷ xs) h = let a = h x in let b = total-le f g xs h in omega arith

pub total-lt : {X : Type 0} (f g : X → ℕ) (xs : List X) (x : X) → ((x : X) → f x ≤ g x) → Contains xs x → f x < g x → total f xs < total g xs
total-lt f g [] x h at less = absurd (none_in x at)
total-lt f g (y ∷ xs) x h at less =
    elim (in_cases y xs x at) [
      | inl e ↦ let a : f y < g y = subst (λ z. f z < g z) e less in let b = total-le f g xs h in omega arith
      | inr later ↦ let a = h y in let b = total-lt f g xs x h later less in omega arith
    ]

pub total-at : {X : Type 0} (f : X → ℕ) (xs : List X) (x : X) → Contains xs x → f x ≤ total f xs
total-at f [] x at = absurd (none_in x at)
total-at f (y ∷ xs) x at =
    elim (in_cases y xs x at) [
      | inl e ↦ let a : f x ≡ f y = ap f e in omega arith
      | inr later ↦ let b = total-at f xs x later in omega arith
    ]

-- a module with each of the slots
abbrev pub at_slots : ModuleId → List Slot → List (ModuleId × Slot)
at_slots m [] = []
at_slots m (x ∷ xs) = (m, x) ∷ at_slots m xs

-- each importer of a list of edges with each of the slots
abbrev pub at_importers : {V : Type 0} → List (EdgeTo V) → List Slot → List (ModuleId × Slot)
at_importers [] slots = []
at_importers (e ∷ es) slots = at_slots e.importer slots ++ at_importers es slots

-- every place to which a copy of these slots can lead
abbrev pub places : {V : Type 0} → (ModuleId → List (EdgeTo V)) → List ModuleId → List Slot → List (ModuleId × Slot)
places edges [] slots = []
places edges (m ∷ ms) slots = at_importers (edges m) slots ++ places edges ms slots

in_slots : (m : ModuleId) (xs : List Slot) (x : Slot) → Contains xs x → Contains (at_slots m xs) (m, x)
in_slots m [] x h = absurd (none_in x h)
in_slots m (y ∷ xs) x h = elim (in_cases y xs x h) [
  | inl e ↦ subst (λ z. Contains ((m, y) ∷ at_slots m xs) (m, z)) (sym e) (first_in (m, y) (at_slots m xs))
  | inr later ↦ later_in (m, y) (at_slots m xs) (m, x) (in_slots m xs x later)
]

in_importers : {V : Type 0} (es : List (EdgeTo V)) (slots : List Slot) (e : EdgeTo V) (x : Slot) → Contains es e → Contains slots x → Contains (at_importers es slots) (e.importer, x)
in_importers [] slots e x h k = absurd (none_in e h)
in_importers (f ∷ es) slots e x h k = elim (in_cases f es e h) [
  | inl same ↦ Contains-append_left _ _ _ (subst (λ (n : EdgeTo _). Contains (at_slots f.importer slots) (n.importer, x)) (sym same) (in_slots f.importer slots x k))
  | inr later ↦ Contains-append_right _ _ _ (in_importers es slots e x later k)
]

pub in_places : {V : Type 0} (edges : ModuleId → List (EdgeTo V)) (ms : List ModuleId) (slots : List Slot) (m : ModuleId) (e : EdgeTo V) (x : Slot)
    → Contains ms m → Contains (edges m) e → Contains slots x → Contains (places edges ms slots) (e.importer, x)
in_places edges [] slots m e x h at k = absurd (none_in m h)
in_places edges (n ∷ ms) slots m e x h at k = elim (in_cases n ms m h) [
  | inl same ↦ Contains-append_left _ _ _ (in_importers (edges n) slots e x (subst (λ z. Contains (edges z) e) same at) k)
  | inr later ↦ Contains-append_right _ _ _ (in_places edges ms slots m e x later at k)
]

-- the visibilities of each source's edges
abbrev pub edge_vises : {V : Type 0} → (ModuleId → List (EdgeTo V)) → List ModuleId → List V
edge_vises edges [] = []
edge_vises edges (m ∷ ms) = map (λ e. e.vis) (edges m) ++ edge_vises edges ms

-- the visibilities of what a module has at each of these slots
abbrev pub held_vises : {V : Type 0} → Content V → ModuleId → List Slot → List V
held_vises c m [] = []
held_vises c m (x ∷ xs) = option_to_list (option_map (λ b. b.vis) (held c m x)) ++ held_vises c m xs

-- every visibility that can travel in a wave of these slots
abbrev pub all_vis : {V : Type 0} → Content V → ModuleId → List Slot → List ModuleId → List V
all_vis c home slots sources = held_vises c home slots ++ edge_vises c.edges sources

in_mapped : {V : Type 0} (es : List (EdgeTo V)) (e : EdgeTo V) → Contains es e → Contains (map (λ (n : EdgeTo _). n.vis) es) e.vis
in_mapped [] e h = absurd (none_in e h)
in_mapped (f ∷ es) e h = elim (in_cases f es e h) [
  | inl same ↦ subst (λ (n : EdgeTo _). Contains (map (λ (n : EdgeTo _). n.vis) (f ∷ es)) n.vis) (sym same) (first_in f.vis (map (λ (n : EdgeTo _). n.vis) es))
  | inr later ↦ later_in f.vis (map (λ (n : EdgeTo _). n.vis) es) e.vis (in_mapped es e later)
]

pub in_edge_vises : {V : Type 0} (edges : ModuleId → List (EdgeTo V)) (ms : List ModuleId) (m : ModuleId) (e : EdgeTo V) → Contains ms m → Contains (edges m) e → Contains (edge_vises edges ms) e.vis
in_edge_vises edges [] m e h at = absurd (none_in m h)
in_edge_vises edges (n ∷ ms) m e h at = elim (in_cases n ms m h) [
  | inl same ↦ Contains-append_left _ _ _ (in_mapped (edges n) e (subst (λ z. Contains (edges z) e) same at))
  | inr later ↦ Contains-append_right _ _ _ (in_edge_vises edges ms m e later at)
]

pub in_held_vises : {V : Type 0} (c : Content V) (m : ModuleId) (xs : List Slot) (x : Slot) (b : Binding V) → Contains xs x → held c m x ≡ Some b → Contains (held_vises c m xs) b.vis
in_held_vises c m [] x b h is = absurd (none_in x h)
in_held_vises c m (y ∷ xs) x b h is = elim (in_cases y xs x h) [
  | inl same ↦
      let here : held c m y ≡ Some b = ap (held c m) (sym same) ∙ is in
      let one : Contains (option_to_list (option_map (λ (n : Binding _). n.vis) (held c m y))) b.vis = rw here (first_in b.vis []) in
      Contains-append_left _ _ _ one
  | inr later ↦ Contains-append_right _ _ _ (in_held_vises c m xs x b later is)
]
