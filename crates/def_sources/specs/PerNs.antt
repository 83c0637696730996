-- What a name means in each namespace.
use Rattle.std.specs.Prelude.{Bool, ◌&&◌, Option, Some, None, is_none, is_some, if◌then◌else◌}
use Rattle.std.specs.Option.{option_or}
use Rattle.def_bindings.specs.declared.bindings.Binding.{Binding}
use Rattle.def_bindings.specs.declared.bindings.Namespace.{Namespace}
use Rattle.def_bindings.specs.declared.bindings.Namespace.TheVariants.{Types, Values, Macros}
use Rattle.def_bindings.specs.declared.visibility.Visibility.{Visibility}
use Rattle.def_sources.specs.declared.per_ns.PerNs.{PerNs}

-- a binding under a visibility of the language
abbrev pub Item : Type 0
Item = Binding Visibility

-- what there is in each namespace
abbrev pub per_namespace : (Namespace → Option Item) → PerNs
per_namespace found = record { types = found Types; values = found Values; macros = found Macros }

-- nothing in any namespace
abbrev pub nothing : PerNs
nothing = record { types = None; values = None; macros = None }

-- one item in types
abbrev pub in_types : Item → PerNs
in_types item = record { types = Some item; values = None; macros = None }

-- one item in one namespace, and nothing in the others
abbrev pub alone : Namespace → Item → PerNs
alone Types item = record { types = Some item; values = None; macros = None }
alone Values item = record { types = None; values = Some item; macros = None }
alone Macros item = record { types = None; values = None; macros = Some item }

-- in each namespace the first, and else the second
abbrev pub otherwise : PerNs → PerNs → PerNs
otherwise a b = record { types = option_or a.types b.types; values = option_or a.values b.values; macros = option_or a.macros b.macros }

-- whether there is nothing in any namespace
abbrev pub is_nothing : PerNs → Bool
is_nothing a = (is_none a.types && is_none a.values) && is_none a.macros

-- whether there is something in each namespace
abbrev pub is_full : PerNs → Bool
is_full a = (is_some a.types && is_some a.values) && is_some a.macros

-- what passes the test
abbrev pub kept : (Item → Bool) → Option Item → Option Item
kept keep None = None
kept keep (Some item) = if keep item then Some item else None

-- what passes the test, in each namespace
abbrev pub kept_in : (Item → Bool) → PerNs → PerNs
kept_in keep found = record { types = kept keep found.types; values = kept keep found.values; macros = kept keep found.macros }

-- what there is in one namespace
abbrev pub in_namespace : PerNs → Namespace → Option Item
in_namespace found Types = found.types
in_namespace found Values = found.values
in_namespace found Macros = found.macros
