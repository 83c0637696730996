-- What `intern` promises of one table of a session, from what `number` promises of the table.
use Rattle.std.specs.Prelude.{⊤, ◌≡◌, ℕ, List, Some, Option, Result, Contains, IfOk, IsErr, OnOk, OnErr, slice_get}
use Rattle.std.proofs.Common.{ap, refl, subst, sym}
use Rattle.std.proofs.lemmas.Result.{IfOk-from_err, MatchResult-from_err}
use Rattle.item_tree.specs.Numbering.{IsInjective, IsGrownBy}
use Rattle.def_interner.specs.Session.{AddsLocations, Grows, session_of}
use Rattle.def_interner.specs.SessionLaws.{adds_refl}
use Rattle.def_interner.specs.declared.interner.Interner.{Interner}

-- `of` makes the session of a table
module _ {Loc : Type 0} (of : List Loc → Interner) {x : Loc} {old new : List Loc} where
  -- the location stands in its table
  pub interned : {Shown : Type 0} {seen : Option Shown} {shown : Shown} (i : ℕ) → record { stored : slice_get new i ≡ Some x; grown : IsGrownBy x old new; injective : IsInjective new; unchanged : ⊤; fresh : ⊤ } →
      (slice_get new i ≡ Some x → seen ≡ Some shown) → (session_of (of new)).text ≡ (session_of (of old)).text → (IsGrownBy x old new → Grows (session_of (of old)) (session_of (of new))) →
      record {
        stored : slice_get new i ≡ Some x;
        shown : seen ≡ Some shown;
        injective : IsInjective new;
        grown : IsGrownBy x old new;
        others : of new ≡ of new;
        adds : AddsLocations (session_of (of old)) (session_of (of new));
        unchanged : ⊤;
        fresh : ⊤;
      }
  interned i number shows text grows =
      record {
        stored = number.stored;
        shown = shows number.stored;
        injective = number.injective;
        grown = number.grown;
        others = refl;
        adds = record { text = text; grows = grows number.grown };
        unchanged = tt;
        fresh = tt;
      }

  -- there was no room for the location
  pub refused : {T E : Type 0} (result : Result T E) (stored seen : T → Type 0) → IsErr result → record { stored : ⊤; grown : ⊤; injective : IsInjective new; unchanged : new ≡ old; fresh : ¬ Contains old x } →
      record {
        stored : IfOk result stored;
        shown : IfOk result seen;
        injective : IsInjective new;
        grown : OnOk result (IsGrownBy x old new);
        others : of new ≡ of new;
        adds : AddsLocations (session_of (of old)) (session_of (of new));
        unchanged : OnErr result (of new ≡ of old);
        fresh : OnErr result (¬ Contains old x);
      }
  refused result stored seen failed number =
      let same = ap of number.unchanged in
      record {
        stored = IfOk-from_err _ _ failed;
        shown = IfOk-from_err _ _ failed;
        injective = number.injective;
        grown = IfOk-from_err _ _ failed;
        others = refl;
        adds = subst (λ s. AddsLocations (session_of (of old)) (session_of s)) (sym same) (adds_refl (session_of (of old)));
        unchanged = MatchResult-from_err _ _ _ failed (λ _. same);
        fresh = MatchResult-from_err _ _ _ failed (λ _. number.fresh);
      }
