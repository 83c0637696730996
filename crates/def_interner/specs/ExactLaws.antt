-- A test of several parts that tells each of them apart.
use Rattle.std.specs.Prelude.{◌≡◌, Bool, true, false, ◌&&◌, refl}
use Rattle.def_interner.specs.Exact.{IsExact}

-- two tests that hold together hold each
both_true : (p q : Bool) → (p && q) ≡ true → (p ≡ true) × (q ≡ true)
both_true true q same = (refl, same)
both_true false q same = cc

-- five values that are equal by their tests are equal
pub five_exact : {A B C D E : Type 0} {eqa : A → A → Bool} {eqb : B → B → Bool} {eqc : C → C → Bool} {eqd : D → D → Bool} {eqe : E → E → Bool} → IsExact eqa → IsExact eqb → IsExact eqc → IsExact eqd → IsExact eqe → {a a' : A} {b b' : B} {c c' : C} {d d' : D} {e e' : E} → (eqa a a' && (eqb b b' && (eqc c c' && (eqd d d' && eqe e e')))) ≡ true → (a ≡ a') × (b ≡ b') × (c ≡ c') × (d ≡ d') × (e ≡ e')
five_exact {eqa = eqa} {eqb = eqb} {eqc = eqc} {eqd = eqd} {eqe = eqe} exa exb exc exd exe {a = a} {a' = a'} {b = b} {b' = b'} {c = c} {c' = c'} {d = d} {d' = d'} {e = e} {e' = e'} same =
    let first = both_true (eqa a a') _ same in
    let second = both_true (eqb b b') _ first.1 in
    let third = both_true (eqc c c') _ second.1 in
    let last = both_true (eqd d d') (eqe e e') third.1 in
    (exa a a' first.0, exb b b' second.0, exc c c' third.0, exd d d' last.0, exe e e' last.1)
