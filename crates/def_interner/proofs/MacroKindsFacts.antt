-- Worked rows of the ways in which a macro may be called.
use Rattle.std.specs.Prelude.{◌≡◌, ℕ, true, false, refl}
use Rattle.def_interner.specs.MacroKinds.{is_fn_like, is_attribute, is_derive, kind_of_expander}
use Rattle.def_ids.specs.declared.expander.BuiltinAttr.TheVariants.{Test}
use Rattle.def_ids.specs.declared.expander.CustomProcMacroExpander.TheVariants.{Missing}
use Rattle.def_interner.specs.declared.macro_def.MacroDefKind.{MacroDefKind}
use Rattle.def_interner.specs.declared.macro_def.MacroDefKind.TheVariants.{Declarative, BuiltIn, BuiltInEager, BuiltInAttr, BuiltInDerive, UnimplementedBuiltIn, ProcMacro}
use Rattle.def_ids.specs.declared.expander.MacroExpander.TheVariants as expander
use Rattle.def_ids.specs.declared.expander.ProcMacroUse.TheVariants.{CustomDerive, Bang, Attr}

-- a macro by rules that may be called in the ways of these bits
abbrev rules : ℕ → MacroDefKind
rules bits = Declarative (record { 0 = bits })

-- rules without any way are called by nothing
pub no_way : (is_fn_like (rules 0) ≡ false) × (is_attribute (rules 0) ≡ false) × (is_derive (rules 0) ≡ false)
no_way = (refl, refl, refl)

-- rules for `m!(..)` alone
pub bang_rules : (is_fn_like (rules 1) ≡ true) × (is_attribute (rules 1) ≡ false) × (is_derive (rules 1) ≡ false)
bang_rules = (refl, refl, refl)

-- rules for `#[m]` alone
pub attribute_rules : (is_fn_like (rules 2) ≡ false) × (is_attribute (rules 2) ≡ true) × (is_derive (rules 2) ≡ false)
attribute_rules = (refl, refl, refl)

-- rules for `m!(..)` and `#[derive(m)]`
pub bang_and_derive_rules : (is_fn_like (rules 5) ≡ true) × (is_attribute (rules 5) ≡ false) × (is_derive (rules 5) ≡ true)
bang_and_derive_rules = (refl, refl, refl)

-- builtins, eager ones and those that nobody has written yet are called as `m!(..)`
pub builtins : (n : ℕ) → (is_fn_like (BuiltIn n) ≡ true) × (is_fn_like (BuiltInEager n) ≡ true) × (is_fn_like UnimplementedBuiltIn ≡ true)
builtins n = (refl, refl, refl)

-- a builtin attribute is called as `#[m]` alone
pub builtin_attribute : (is_fn_like (BuiltInAttr Test) ≡ false) × (is_attribute (BuiltInAttr Test) ≡ true) × (is_derive (BuiltInAttr Test) ≡ false)
builtin_attribute = (refl, refl, refl)

-- a builtin derive is called as `#[derive(m)]` alone
pub builtin_derive : (n : ℕ) → (is_fn_like (BuiltInDerive n) ≡ false) × (is_attribute (BuiltInDerive n) ≡ false) × (is_derive (BuiltInDerive n) ≡ true)
builtin_derive n = (refl, refl, refl)

-- a procedural macro is called as it was declared, whether or not it can be expanded
pub procedural : (is_fn_like (ProcMacro Missing Bang) ≡ true) × (is_attribute (ProcMacro Missing Attr) ≡ true) × (is_derive (ProcMacro Missing CustomDerive) ≡ true)
procedural = (refl, refl, refl)

-- and in no other way
pub procedural_only : (is_attribute (ProcMacro Missing Bang) ≡ false) × (is_derive (ProcMacro Missing Attr) ≡ false) × (is_fn_like (ProcMacro Missing CustomDerive) ≡ false)
procedural_only = (refl, refl, refl)

-- a `macro_rules` macro that is marked as builtin has the builtin's kind
pub eager_expander : (n : ℕ) → kind_of_expander (expander.BuiltInEager n) ≡ BuiltInEager n
eager_expander n = refl
