-- What a glob's offer makes of a place that a glob bound, by three tests.
use Rattle.std.proofs.Common.{◌≡◌, Bool, cond, Some, None, ap, refl, ◌∙◌}
use Rattle.def_ids.specs.contracts.ids.DefPartialEq.TheImpl as defs
use Rattle.def_ids.specs.contracts.ids.MacroIdPartialEq.TheImpl as macros
use Rattle.def_ids.specs.declared.ids.Def.{Def}
use Rattle.def_ids.specs.declared.ids.Def.TheVariants.{Module, Function, Struct, Union, Enum, Variant, Const, Static, Trait, TypeAlias, Builtin, Macro}
use Rattle.def_ids.specs.declared.ids.GlobId.{GlobId}
use Rattle.def_ids.specs.declared.ids.MacroId.{MacroId}
use Rattle.def_ids.specs.declared.ids.MacroId.TheVariants.{MacroRules, Macro2, ProcMacro}
use Rattle.def_ids.specs.Equality.{def_eq, glob_eq, macro_eq}
use Rattle.def_bindings.specs.declared.bindings.Binding.{Binding}
use Rattle.def_bindings.specs.Order.{Order, rises_to}
use Rattle.def_bindings.specs.Puts.{settled_by_glob}

macro-same : (a b : MacroId) → macros.ghosts.eq a b ≡ macro_eq a b
macro-same (MacroRules a) (MacroRules b) = refl
macro-same (Macro2 a) (Macro2 b) = refl
macro-same (ProcMacro a) (ProcMacro b) = refl
macro-same _ _ = refl

-- the derived test of definitions is that of the definitions
pub def-same : (a b : Def) → defs.ghosts.eq a b ≡ def_eq a b
def-same (Macro a) (Macro b) = macro-same a b
def-same (Module a) (Module b) = refl
def-same (Function a) (Function b) = refl
def-same (Struct a) (Struct b) = refl
def-same (Union a) (Union b) = refl
def-same (Enum a) (Enum b) = refl
def-same (Variant a) (Variant b) = refl
def-same (Const a) (Const b) = refl
def-same (Static a) (Static b) = refl
def-same (Trait a) (Trait b) = refl
def-same (TypeAlias a) (TypeAlias b) = refl
def-same (Builtin a) (Builtin b) = refl
def-same _ _ = refl

-- what is settled, by what the tests say
pub settled_as : {V : Type 0} (o : Order V) (there offer : Binding V) (g h : GlobId) (same rises again : Bool)
    → same ≡ def_eq there.def offer.def → rises ≡ rises_to o there.vis offer.vis → again ≡ glob_eq g h
    → cond same (cond rises (Some (record there { vis = offer.vis })) None) (cond again (Some offer) None) ≡ settled_by_glob o there offer g h
settled_as o there offer g h same rises again is_same does_rise is_again =
    ap (λ b. cond b (cond rises (Some (record there { vis = offer.vis })) None) (cond again (Some offer) None)) is_same
    ∙ ap (λ b. cond (def_eq there.def offer.def) (cond b (Some (record there { vis = offer.vis })) None) (cond again (Some offer) None)) does_rise
    ∙ ap (λ b. cond (def_eq there.def offer.def) (cond (rises_to o there.vis offer.vis) (Some (record there { vis = offer.vis })) None) (cond b (Some offer) None)) is_again
