-- The attributes that are left, with their numbers.
use Rattle.std.proofs.Common.{◌≡◌, ℕ, suc, ◌<◌, ◌≤◌, ◌+◌, List, [], ◌∷◌, length, get_or, drop, add-one, ap, sym, ◌∙◌}
use Rattle.std.proofs.Common.{Option, Some, None}
use Rattle.std.specs.Iterator.{Count, MakesProgress}
use Rattle.std.proofs.Math.Seq.{drop-cons}
use Rattle.std.proofs.lemmas.List.{drop_all}
use Rattle.item_tree.specs.declared.attrs.Attr.{Attr}
use Rattle.item_tree.specs.Attrs.{numbered_at, numbered_from}

-- the next one and the rest
pub numbered_next : (i : ℕ) (attrs : List Attr) (attr : Attr) → i < length attrs → attr ≡ get_or attrs i attr → numbered_at i attrs ≡ (record { 0 = i }, attr) ∷ numbered_at (i + 1) attrs
numbered_next i attrs attr within is =
    ap (numbered_from i) (drop-cons attrs i attr within ∙ ap (λ a. a ∷ drop (suc i) attrs) (sym is))
    ∙ ap (λ j. (record { 0 = i }, attr) ∷ numbered_from (i + 1) (drop j attrs)) (sym (add-one i))

-- none behind the last
pub numbered_past : (i : ℕ) (attrs : List Attr) → length attrs ≤ i → numbered_at i attrs ≡ []
numbered_past i attrs past = ap (numbered_from i) (drop_all i attrs past)

-- an iterator that gave nothing may stay as it is
pub stays_at_end : {S A : Type 0} (can : S → Type 0) (left : S → Count) (s : S) (given : Option A) → given ≡ None → MakesProgress can left s given s
stays_at_end can left s None none = record { on = λ finite. tt; keeps = tt; rests = λ finite. finite }
stays_at_end can left s (Some x) none = cc
