-- The test of equality of definitions decides it.
use Rattle.std.specs.Prelude.{◌≡◌, ℕ, true, refl}
use Rattle.std.proofs.Common.{ap}
use Rattle.std.proofs.lemmas.Bool.{eqb-true, eq-eqb}
use Rattle.def_ids.specs.declared.ids.MacroId.{MacroId}
use Rattle.def_ids.specs.declared.ids.MacroId.TheVariants.{MacroRules, Macro2, ProcMacro}
use Rattle.def_ids.specs.declared.ids.Def.{Def}
use Rattle.def_ids.specs.declared.ids.Def.TheVariants.{Module, Function, Struct, Union, Enum, Variant, Const, Static, Trait, TypeAlias, Builtin, Macro}
use Rattle.def_ids.specs.Equality.{macro_eq, def_eq}
use Rattle.def_bindings.specs.IdLaws.{module-refl}
use Rattle.def_bindings.specs.IdLaws.{same_module_equal}

pub macro-eq : (a b : MacroId) → macro_eq a b ≡ true → a ≡ b
macro-eq (MacroRules a) (MacroRules b) h = ap (λ (n : ℕ). let x : MacroId = MacroRules (record { 0 = n }) in x) (eqb-true a.0 b.0 h)
macro-eq (Macro2 a) (Macro2 b) h = ap (λ (n : ℕ). let x : MacroId = Macro2 (record { 0 = n }) in x) (eqb-true a.0 b.0 h)
macro-eq (ProcMacro a) (ProcMacro b) h = ap (λ (n : ℕ). let x : MacroId = ProcMacro (record { 0 = n }) in x) (eqb-true a.0 b.0 h)
macro-eq _ _ h = cc

pub macro-refl : (a : MacroId) → macro_eq a a ≡ true
macro-refl (MacroRules a) = eq-eqb a.0 a.0 refl
macro-refl (Macro2 a) = eq-eqb a.0 a.0 refl
macro-refl (ProcMacro a) = eq-eqb a.0 a.0 refl

pub def-eq : (a b : Def) → def_eq a b ≡ true → a ≡ b
def-eq (Module a) (Module b) h = ap Module (same_module_equal a b h)
def-eq (Function a) (Function b) h = ap (λ (n : ℕ). let x : Def = Function (record { 0 = n }) in x) (eqb-true a.0 b.0 h)
def-eq (Struct a) (Struct b) h = ap (λ (n : ℕ). let x : Def = Struct (record { 0 = n }) in x) (eqb-true a.0 b.0 h)
def-eq (Union a) (Union b) h = ap (λ (n : ℕ). let x : Def = Union (record { 0 = n }) in x) (eqb-true a.0 b.0 h)
def-eq (Enum a) (Enum b) h = ap (λ (n : ℕ). let x : Def = Enum (record { 0 = n }) in x) (eqb-true a.0 b.0 h)
def-eq (Variant a) (Variant b) h = ap (λ (n : ℕ). let x : Def = Variant (record { 0 = n }) in x) (eqb-true a.0 b.0 h)
def-eq (Const a) (Const b) h = ap (λ (n : ℕ). let x : Def = Const (record { 0 = n }) in x) (eqb-true a.0 b.0 h)
def-eq (Static a) (Static b) h = ap (λ (n : ℕ). let x : Def = Static (record { 0 = n }) in x) (eqb-true a.0 b.0 h)
def-eq (Trait a) (Trait b) h = ap (λ (n : ℕ). let x : Def = Trait (record { 0 = n }) in x) (eqb-true a.0 b.0 h)
def-eq (TypeAlias a) (TypeAlias b) h = ap (λ (n : ℕ). let x : Def = TypeAlias (record { 0 = n }) in x) (eqb-true a.0 b.0 h)
def-eq (Builtin a) (Builtin b) h = ap Builtin (eqb-true a b h)
def-eq (Macro a) (Macro b) h = ap Macro (macro-eq a b h)
def-eq _ _ h = cc

pub def-refl : (a : Def) → def_eq a a ≡ true
def-refl (Module a) = module-refl a
def-refl (Function a) = eq-eqb a.0 a.0 refl
def-refl (Struct a) = eq-eqb a.0 a.0 refl
def-refl (Union a) = eq-eqb a.0 a.0 refl
def-refl (Enum a) = eq-eqb a.0 a.0 refl
def-refl (Variant a) = eq-eqb a.0 a.0 refl
def-refl (Const a) = eq-eqb a.0 a.0 refl
def-refl (Static a) = eq-eqb a.0 a.0 refl
def-refl (Trait a) = eq-eqb a.0 a.0 refl
def-refl (TypeAlias a) = eq-eqb a.0 a.0 refl
def-refl (Builtin a) = eq-eqb a a refl
def-refl (Macro a) = macro-refl a
