-- What follows from what a clause says of a result.
use Rattle.std.proofs.Common.{◌≡◌, ◌||◌, Bool, true, cond, Result, Ok, Err, Option, Some, None, false, refl, subst, sym, rules}
use Rattle.def_bindings.specs.declared.bindings.Namespace.{Namespace}
use Rattle.def_bindings.specs.Content.{is_namespace}
use Rattle.def_tables.specs.BoundName.{with_namespace}
use Rattle.std.specs.Prelude.{IfOk, OnOk, OnErr, IsOk, IsSome, is_some}

pub OnOk_then : {T E : Type 0} (r : Result T E) {P Q : Type 0} → OnOk r P → (P → Q) → OnOk r Q
OnOk_then (Ok x) h f = f h
OnOk_then (Err e) h f = h

pub OnErr_then : {T E : Type 0} (r : Result T E) {P Q : Type 0} → OnErr r P → (P → Q) → OnErr r Q
OnErr_then (Ok x) h f = h
OnErr_then (Err e) h f = f h

pub IfOk_then : {T E : Type 0} (r : Result T E) {P Q : T → Type 0} → IfOk r P → ((x : T) → P x → Q x) → IfOk r Q
IfOk_then (Ok x) p f = f x p
IfOk_then (Err e) p f = p

pub some_there : {X : Type 0} {o : Option X} {x : X} → o ≡ Some x → IsSome o
some_there {o = o} {x = x} h = subst IsSome (sym h) (search rules)

pub none_there : {X : Type 0} {o : Option X} → is_some o ≡ false → o ≡ None
none_there {o = None} h = refl
none_there {o = Some x} h = cc

pub OnErr_from : {T E : Type 0} (r : Result T E) {P : Type 0} → P → OnErr r P
OnErr_from (Ok x) h = search rules
OnErr_from (Err e) h = h

pub at_ok : {T E : Type 0} (r : Result T E) {P : Type 0} → IsOk r → OnOk r P → P
at_ok (Ok x) h p = p
at_ok (Err e) h p = absurd (search rules)

pub at_err : {T E : Type 0} (r : Result T E) {P : Type 0} (e : E) → r ≡ Err e → OnErr r P → P
at_err (Ok x) e is p = cc
at_err (Err x) e is p = p

pub OnOk_from : {T E : Type 0} (r : Result T E) {P : Type 0} → P → OnOk r P
OnOk_from (Ok x) h = h
OnOk_from (Err e) h = search rules

pub or-true : (b : Bool) → true ≡ (b || true)
or-true true = refl
or-true false = refl

-- where nothing is bound, nothing is left
pub nothing-left : {B : Type 0} (ns : Namespace) → (λ (n : Namespace). None) ≡ with_namespace {B = B} (λ n. None) ns None
nothing-left ns = λ i n. same (is_namespace ns n) i
  where
    same : {B : Type 0} (b : Bool) → ◌≡◌ {A = Option B} None (cond b None None)
    same true = refl
    same false = refl
