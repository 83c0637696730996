-- The number that a limit's text reads as.
use Rattle.std.proofs.Common.{◌≡◌, ◌<◌, ◌^◌, ℕ, Bool, true, false, cond, ◌&&◌, List, [], ◌∷◌, Some, None, Result, Ok, Err, refl, sym, ap, subst, arith, ◌∙◌}
use Rattle.std.proofs.lemmas.Bool.{lt-ltb, ltb-true}
use Rattle.std.proofs.lemmas.Str.Parse.{IsNumeralModel, numerals_by_value, tells_all_ascii_digits}
use Rattle.std.specs.Str.{all_ascii_digits}
use Rattle.std.specs.Str.Parse.{IsNumeral, ParsesUnsigned, digits_value, without_leading_plus}
use Rattle.def_rules.specs.Crates.{digits_u32, read_u32}

own : IsNumeralModel (λ ds. all_ascii_digits ds ≡ true) (digits_value 10)
own = numerals_by_value (λ ds. all_ascii_digits ds ≡ true) tells_all_ascii_digits

chosen : (a b : Bool) (v n : ℕ) → a ≡ true → b ≡ true → n ≡ v → Some n ≡ cond (a && b) (Some v) None
chosen a b v n p q same = ap (λ x. Some x) same ∙ sym (ap (λ x. cond (x && b) (Some v) None) p ∙ ap (λ x. cond x (Some v) None) q)

refused : (a b : Bool) (v : ℕ) → (a ≡ true → b ≡ true → ⊥) → None ≡ cond (a && b) (Some v) None
refused true true v wrong = absurd (wrong refl refl)
refused true false v wrong = refl
refused false b v wrong = refl

-- digits of a number of 32 bits are read
digits_read : (ds : List ℕ) (n : ℕ) → (IsNumeral 10 ds × (digits_value 10 ds < 2 ^ 32)) × (n ≡ digits_value 10 ds) → Some n ≡ digits_u32 ds
digits_read [] n given = let some : 0 < 0 = given.0.0.0 in absurd (omega arith)
digits_read (c ∷ cs) n given = chosen _ _ _ n (own.from (c ∷ cs) given.0.0.1) (lt-ltb _ _ given.0.1) given.1

-- and nothing else is
digits_refused : (ds : List ℕ) → ¬ (IsNumeral 10 ds × (digits_value 10 ds < 2 ^ 32)) → None ≡ digits_u32 ds
digits_refused [] wrong = refl
digits_refused (c ∷ cs) wrong = refused _ _ _ (λ p q. wrong ((omega arith, own.to (c ∷ cs) p), ltb-true _ _ q))

-- a text that is parsed is read
pub parsed : {E : Type 0} (text : List ℕ) (r : Result ℕ E) (n : ℕ) → ParsesUnsigned 32 10 text r → r ≡ Ok n → Some n ≡ read_u32 text
parsed text r n by is = digits_read (without_leading_plus text) n (subst (ParsesUnsigned 32 10 text) is by)

-- one that is not parsed is not
pub unparsed : {E : Type 0} (text : List ℕ) (r : Result ℕ E) (e : E) → ParsesUnsigned 32 10 text r → r ≡ Err e → None ≡ read_u32 text
unparsed text r e by is = digits_refused (without_leading_plus text) (subst (ParsesUnsigned 32 10 text) is by)
