-- What lies below an item is less work than the item.
use Rattle.std.proofs.Common.{◌≡◌, ◌<◌, ◌≤◌, ◌*◌, ◌^◌, ℕ, suc, Bool, true, false, cond, ◌||◌, nat_eq, nat_lt, List, [], ◌∷◌, length, ap, ◌∙◌, arith, inl, inr}
use Rattle.std.proofs.Math.Nat.{mul-le-mul_right, one-le-pow, pow-succ'}
use Rattle.std.proofs.lemmas.Bool.{cases_lt, eqb-false, lt-ltb}
use Rattle.std.proofs.lemmas.List.Sums.{sum_by-cons}
use Rattle.tree_ids.specs.declared.ids.HirFileId.{HirFileId}
use Rattle.def_oracle.specs.declared.source_database.AssocItem.{AssocItem}
use Rattle.def_rules.specs.Calls.{deeper, deepest}
use Rattle.def_assoc.specs.ExpansionTrees.{levels_from, nodes_in}
use Rattle.def_assoc.specs.Work.{node_work, weight, work}

-- Depths

-- an expansion that is not too deep lies above the greatest depth
pub not_deepest : (limit depth : ℕ) → depth < 2 ^ 32 → (nat_lt limit depth || nat_eq depth deepest) ≡ false → depth < deepest
not_deepest limit depth fits shallow = elim (cases_lt depth deepest) [
  | inl less ↦ less
  | inr at ↦ absurd (eqb-false depth deepest (second (nat_lt limit depth) (nat_eq depth deepest) shallow) (omega (arith, fits, at)))
]
  where
    second : (a b : Bool) → (a || b) ≡ false → b ≡ false
    second true b h = cc
    second false b h = h

-- what lies one level deeper has one level less
pub level_below : (depth : ℕ) → depth < deepest → levels_from depth ≡ suc (levels_from (deeper depth))
level_below depth less =
    let next : deeper depth ≡ suc depth = ap (λ b. cond b (suc depth) deepest) (lt-ltb depth deepest less) in
    omega (arith, next, less)

-- Weights

weight_next : (levels : ℕ) → weight (suc levels) ≡ (2 ^ 65) * weight levels
unfolding weight
weight_next levels = pow-succ' (2 ^ 65) levels

one_weight : (levels : ℕ) → 1 ≤ weight levels
unfolding weight
one_weight levels = one-le-pow levels (2 ^ 65) (omega arith)

-- items of one depth weigh the same
same_work : (file : HirFileId) (depth : ℕ) (items : List AssocItem) → work (nodes_in file depth items) ≡ length items * weight (levels_from depth)
same_work file depth [] = omega arith
same_work file depth (item ∷ items) =
    let first = sum_by-cons node_work (record { file = file; depth = depth; item = item }) (nodes_in file depth items) in
    let rest = same_work file depth items in
    omega (arith, first, rest)

-- a list of items one level deeper weighs less than an item
pub work_below : (file : HirFileId) (depth : ℕ) (items : List AssocItem) → depth < deepest → length items < 2 ^ 64 → work (nodes_in file (deeper depth) items) < weight (levels_from depth)
work_below file depth items less few =
    let level : ℕ = levels_from (deeper depth) in
    let all = same_work file (deeper depth) items in
    let most : length items * weight level ≤ (2 ^ 64) * weight level = mul-le-mul_right (weight level) (omega (arith, few)) in
    let one = one_weight level in
    let whole : weight (levels_from depth) ≡ (2 ^ 65) * weight level = ap weight (level_below depth less) ∙ weight_next level in
    omega (arith, all, most, one, whole)

-- no item weighs less than an item
pub none_below : (depth : ℕ) → work [] < weight (levels_from depth)
none_below depth = let one = one_weight (levels_from depth) in omega (arith, one)
