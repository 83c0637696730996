-- The ways in which a macro may be called.
use Rattle.std.specs.Prelude.{ℕ, Bool, true, false, ◌==◌}
use Rattle.std.specs.Int.RustNames.{bit_and}
use Rattle.tree_ids.specs.declared.macro_flags.MacroCallStyles.{MacroCallStyles}
use Rattle.def_interner.specs.declared.macro_def.MacroDefKind.{MacroDefKind}
use Rattle.def_interner.specs.declared.macro_def.MacroDefKind.TheVariants as kind
use Rattle.def_ids.specs.declared.expander.MacroExpander.{MacroExpander}
use Rattle.def_ids.specs.declared.expander.MacroExpander.TheVariants as expander
use Rattle.def_ids.specs.declared.expander.ProcMacroUse.{ProcMacroUse}
use Rattle.def_ids.specs.declared.expander.ProcMacroUse.TheVariants.{CustomDerive, Bang, Attr}

-- whether a macro's own rules allow this way of calling it
abbrev pub has_style : MacroCallStyles → ℕ → Bool
has_style styles style = bit_and styles.0 style == style

-- the kind of a macro that this expands
abbrev pub kind_of_expander : MacroExpander → MacroDefKind
kind_of_expander (expander.Declarative styles) = kind.Declarative styles
kind_of_expander (expander.BuiltIn n) = kind.BuiltIn n
kind_of_expander (expander.BuiltInEager n) = kind.BuiltInEager n
kind_of_expander (expander.BuiltInAttr attr) = kind.BuiltInAttr attr
kind_of_expander (expander.BuiltInDerive n) = kind.BuiltInDerive n
kind_of_expander expander.UnimplementedBuiltIn = kind.UnimplementedBuiltIn

-- whether a procedural macro of this kind is called as `m!(..)`
abbrev pub is_bang_use : ProcMacroUse → Bool
is_bang_use Bang = true
is_bang_use Attr = false
is_bang_use CustomDerive = false

-- whether a procedural macro of this kind is called as `#[m]`
abbrev pub is_attr_use : ProcMacroUse → Bool
is_attr_use Bang = false
is_attr_use Attr = true
is_attr_use CustomDerive = false

-- whether a procedural macro of this kind is called as `#[derive(m)]`
abbrev pub is_derive_use : ProcMacroUse → Bool
is_derive_use Bang = false
is_derive_use Attr = false
is_derive_use CustomDerive = true

-- `m!(..)` calls macros by rules that allow it (1), builtins, implemented or not, and procedural ones of that kind
abbrev pub is_fn_like : MacroDefKind → Bool
is_fn_like (kind.Declarative styles) = has_style styles 1
is_fn_like (kind.BuiltIn n) = true
is_fn_like (kind.BuiltInEager n) = true
is_fn_like (kind.BuiltInAttr attr) = false
is_fn_like (kind.BuiltInDerive n) = false
is_fn_like kind.UnimplementedBuiltIn = true
is_fn_like (kind.ProcMacro by called) = is_bang_use called

-- `#[m]` calls macros by rules that allow it (2), builtin attributes and procedural ones of that kind
abbrev pub is_attribute : MacroDefKind → Bool
is_attribute (kind.Declarative styles) = has_style styles 2
is_attribute (kind.BuiltIn n) = false
is_attribute (kind.BuiltInEager n) = false
is_attribute (kind.BuiltInAttr attr) = true
is_attribute (kind.BuiltInDerive n) = false
is_attribute kind.UnimplementedBuiltIn = false
is_attribute (kind.ProcMacro by called) = is_attr_use called

-- `#[derive(m)]` calls macros by rules that allow it (4), builtin derives and procedural ones of that kind
abbrev pub is_derive : MacroDefKind → Bool
is_derive (kind.Declarative styles) = has_style styles 4
is_derive (kind.BuiltIn n) = false
is_derive (kind.BuiltInEager n) = false
is_derive (kind.BuiltInAttr attr) = false
is_derive (kind.BuiltInDerive n) = true
is_derive kind.UnimplementedBuiltIn = false
is_derive (kind.ProcMacro by called) = is_derive_use called
