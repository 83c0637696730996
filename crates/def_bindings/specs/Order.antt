-- Orders of visibilities, given by a test.
use Rattle.std.specs.Prelude.{◌≡◌, ◌≤◌, ◌&&◌, Bool, true, false, not, ℕ, List, [], ◌∷◌, length, Option, Some, None, if◌then◌else◌}
use Rattle.def_ids.specs.declared.ids.ModuleId.{ModuleId}

-- an order of visibilities: which is at most which, and which modules see it
pub record Order (V : Type 0) : Type 0 where
  pub at_most : V → V → Bool
  pub can_see : ModuleId → V → Bool

-- reflexive, transitive and antisymmetric
pub record IsPartialOrder {V : Type 0} (at_most : V → V → Bool) : Type 0 where
  pub reflexive : (a : V) → at_most a a ≡ true
  pub transitive : (a b c : V) → at_most a b ≡ true → at_most b c ≡ true → at_most a c ≡ true
  pub antisymmetric : (a b : V) → at_most a b ≡ true → at_most b a ≡ true → a ≡ b

-- the greater of two, where they are related
abbrev pub greater_of : {V : Type 0} → (V → V → Bool) → V → V → Option V
greater_of at_most a b = if at_most a b then Some b else (if at_most b a then Some a else None)

-- the lesser of two, where they are related
abbrev pub lesser_of : {V : Type 0} → (V → V → Bool) → V → V → Option V
lesser_of at_most a b = if at_most a b then Some a else (if at_most b a then Some b else None)

-- whether the second is greater than the first
abbrev pub rises_to : {V : Type 0} → Order V → V → V → Bool
rises_to order a b = order.at_most a b && not (order.at_most b a)

-- the first is below the second
pub record IsBelow {V : Type 0} (at_most : V → V → Bool) (a b : V) : Type 0 where
  pub related : at_most a b ≡ true
  pub strict : at_most b a ≡ false

-- the list goes on above v, each below the next
abbrev pub RisesFrom : {V : Type 0} → (V → V → Bool) → V → List V → Type 0
RisesFrom at_most v [] = Unit {0}
RisesFrom at_most v (w ∷ ws) = IsBelow at_most v w × RisesFrom at_most w ws

-- each of the list is below the next
abbrev pub IsStrictlyRising : {V : Type 0} → (V → V → Bool) → List V → Type 0
IsStrictlyRising at_most [] = Unit {0}
IsStrictlyRising at_most (v ∷ vs) = RisesFrom at_most v vs

-- a partial order, in which what is greater stays visible where the lesser was, and no list rises longer than the height
pub record IsLawful {V : Type 0} (order : Order V) (height : ℕ) : Type 0 where
  pub is_order : IsPartialOrder order.at_most
  pub stays_visible : (a b : V) (place : ModuleId) → order.at_most a b ≡ true → order.can_see place a ≡ true → order.can_see place b ≡ true
  pub rise_ends : (rise : List V) → IsStrictlyRising order.at_most rise → length rise ≤ height
