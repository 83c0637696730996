-- The bindings of one name.
use Rattle.std.specs.Prelude.{Bool, ◌&&◌, Option, Some, None, is_none, option_and_then}
use Rattle.def_ids.specs.declared.ids.ModuleId.{ModuleId}
use Rattle.def_ids.specs.Ids.{module_of_def}
use Rattle.def_bindings.specs.declared.bindings.Namespace.{Namespace}
use Rattle.def_bindings.specs.declared.bindings.Namespace.TheVariants.{Types, Values, Macros}
use Rattle.def_bindings.specs.declared.bindings.Binding.{Binding}
use Rattle.def_bindings.specs.declared.name_bindings.NameBindings.{NameBindings}

-- no bindings
abbrev pub unbound : {V : Type 0} → NameBindings V
unbound = record { types = None; values = None; macros = None }

-- the binding in a namespace
abbrev pub bound_in : {V : Type 0} → NameBindings V → Namespace → Option (Binding V)
bound_in s Types = s.types
bound_in s Values = s.values
bound_in s Macros = s.macros

-- these, with another binding or none in one namespace
abbrev pub with_bound : {V : Type 0} → NameBindings V → Namespace → Option (Binding V) → NameBindings V
with_bound s Types b = record s { types = b }
with_bound s Values b = record s { values = b }
with_bound s Macros b = record s { macros = b }

-- whether there is no binding in any namespace
abbrev pub is_unbound : {V : Type 0} → NameBindings V → Bool
is_unbound s = is_none s.types && is_none s.values && is_none s.macros

-- the module that is bound, if it is one
abbrev pub module_bound : {V : Type 0} → Option (Binding V) → Option ModuleId
module_bound found = option_and_then (λ b. module_of_def b.def) found
