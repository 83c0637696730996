-- The laws of visibilities over any chains.
use Rattle.std.specs.Prelude.{◌≡◌, ◌<◌, ◌≤◌, ◌+◌, ◌-◌, true, ℕ, suc, List, [], ◌∷◌, length, refl}
use Rattle.std.specs.List.{list_any}
use Rattle.std.proofs.Common.{ap, arith, inl, inr}
use Rattle.std.proofs.lemmas.Bool.{both_ways}
use Rattle.def_ids.specs.declared.ids.ModuleId.{ModuleId}
use Rattle.def_bindings.specs.declared.visibility.Visibility.{Visibility}
use Rattle.def_bindings.specs.declared.visibility.Visibility.TheVariants.{Module, PubCrate, Public}
use Rattle.def_ids.specs.Ids.{is_same_module, is_block_root}
use Rattle.def_bindings.specs.Chains.{AreChains, in_own_chain, in_chain_of_chain, equal_from_chains, length-chain, home_rises}
use Rattle.def_bindings.specs.Order.{IsPartialOrder, IsBelow, RisesFrom, IsStrictlyRising}
use Rattle.def_bindings.specs.Visibility.{is_at_most, home_of, is_visible_from}

module _ (chain : ModuleId → List ModuleId) (laws : AreChains is_same_module chain) where
  reflexive : (a : Visibility) → is_at_most chain a a ≡ true
  reflexive (Module a) = in_own_chain is_same_module chain laws a
  reflexive PubCrate = refl
  reflexive Public = refl

  transitive : (a b c : Visibility) → is_at_most chain a b ≡ true → is_at_most chain b c ≡ true → is_at_most chain a c ≡ true
  transitive (Module a) (Module b) (Module c) p q = in_chain_of_chain is_same_module chain laws a b c p q
  transitive (Module a) PubCrate (Module c) p q = cc
  transitive (Module a) Public (Module c) p q = cc
  transitive (Module a) b PubCrate p q = refl
  transitive (Module a) b Public p q = refl
  transitive PubCrate (Module b) c p q = cc
  transitive PubCrate PubCrate c p q = q
  transitive PubCrate Public (Module c) p q = cc
  transitive PubCrate Public PubCrate p q = refl
  transitive PubCrate Public Public p q = refl
  transitive Public (Module b) c p q = cc
  transitive Public PubCrate c p q = cc
  transitive Public Public c p q = q

  antisymmetric : (a b : Visibility) → is_at_most chain a b ≡ true → is_at_most chain b a ≡ true → a ≡ b
  antisymmetric (Module a) (Module b) p q = ap Module (equal_from_chains is_same_module chain laws a b p q)
  antisymmetric (Module a) PubCrate p q = cc
  antisymmetric (Module a) Public p q = cc
  antisymmetric PubCrate (Module b) p q = cc
  antisymmetric PubCrate PubCrate p q = refl
  antisymmetric PubCrate Public p q = cc
  antisymmetric Public (Module b) p q = cc
  antisymmetric Public PubCrate p q = cc
  antisymmetric Public Public p q = refl

  pub visibility_order : IsPartialOrder (is_at_most chain)
  visibility_order = record { reflexive = reflexive; transitive = transitive; antisymmetric = antisymmetric }

  -- what is greater stays visible where the lesser was
  pub visible_stays : (a b : Visibility) (place : ModuleId) → is_at_most chain a b ≡ true → is_visible_from chain place a ≡ true → is_visible_from chain place b ≡ true
  visible_stays (Module a) (Module b) place p q =
      in_chain_of_chain is_same_module chain laws place (home_of chain a) (home_of chain b) q (home_rises is_same_module chain laws is_block_root a b p)
  visible_stays a PubCrate place p q = refl
  visible_stays a Public place p q = refl
  visible_stays PubCrate (Module b) place p q = cc
  visible_stays Public (Module b) place p q = cc

  module _ (bound : ℕ) (bounded : (m : ModuleId) → length (chain m) ≤ bound) where
    -- how far up a visibility stands
    abbrev rank : Visibility → ℕ
    rank (Module m) = bound - length (chain m)
    rank PubCrate = bound
    rank Public = suc bound

    has_length : (m : ModuleId) → 0 < length (chain m)
    has_length m = let t = laws.begins m in rw t.1 (omega arith)

    rank-below : (a b : Visibility) → IsBelow (is_at_most chain) a b → rank a < rank b
    rank-below (Module a) (Module b) h =
        elim (length-chain is_same_module chain laws a b h.related) [
          | inl e ↦
              let back : list_any (is_same_module a) (chain b) ≡ true = rw e (in_own_chain is_same_module chain laws b) in
              let none : ⊥ = both_ways _ h.strict back in
              absurd none
          | inr l ↦ let p = bounded a in let q = bounded b in omega arith
        ]
    rank-below (Module a) PubCrate h = let p = bounded a in let q = has_length a in omega arith
    rank-below (Module a) Public h = omega arith
    rank-below PubCrate (Module b) h = let r = h.related in cc
    rank-below PubCrate PubCrate h = let r = h.strict in cc
    rank-below PubCrate Public h = omega arith
    rank-below Public (Module b) h = let r = h.related in cc
    rank-below Public PubCrate h = let r = h.related in cc
    rank-below Public Public h = let r = h.strict in cc

    rank-bounded : (a : Visibility) → rank a ≤ suc bound
    rank-bounded (Module m) = omega arith
    rank-bounded PubCrate = omega arith
    rank-bounded Public = omega arith

    rises_by_rank : (v : Visibility) (vs : List Visibility) → RisesFrom (is_at_most chain) v vs → rank v + length vs ≤ suc bound
    rises_by_rank v [] h = let p = rank-bounded v in omega arith
    rises_by_rank v (w ∷ ws) h = let p = rank-below v w h.0 in let q = rises_by_rank w ws h.1 in omega arith

    -- a strictly rising list is no longer than the height
    pub length-rising : (vs : List Visibility) → IsStrictlyRising (is_at_most chain) vs → length vs ≤ bound + 2
    length-rising [] h = omega arith
    length-rising (v ∷ vs) h = let p = rises_by_rank v vs h in omega arith
