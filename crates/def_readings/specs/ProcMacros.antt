-- Which procedural macro a function declares.
use Rattle.std.specs.Prelude.{List, [], cond, Option, None, Some, option_and_then}
use Rattle.item_tree.specs.declared.attrs.Attr.{Attr}
use Rattle.tree_ids.specs.declared.name.Name.{Name}
use Rattle.item_tree.specs.Attrs.{has_attr, tt_values}
use Rattle.item_tree.specs.KnownNames.{proc_macro_name, proc_macro_attribute_name, proc_macro_derive_name}
use Rattle.item_tree.specs.Lists.{first_of_list}
use Rattle.item_tree.specs.TokenTrees.{elements}
use Rattle.def_readings.specs.DeriveNames.{NameAndHelpers, name_and_helpers}

-- how a procedural macro is called: as a derive, with its helpers; as a call; as an attribute
pub data MacroKind : Type 0 where
  derive : List Name → MacroKind
  bang : MacroKind
  attribute : MacroKind

-- a declared procedural macro
pub record MacroDecl : Type 0 where
  pub name : Name
  pub kind : MacroKind

-- what the first token tree of `proc_macro_derive` says
abbrev pub derive_declared : List Attr → Option NameAndHelpers
derive_declared attrs = option_and_then (λ trees. name_and_helpers (elements trees)) (first_of_list (tt_values proc_macro_derive_name attrs))

-- a derive that is not read keeps its function's name, without helpers
abbrev pub derive_macro : Name → Option NameAndHelpers → MacroDecl
derive_macro function None = record { name = function; kind = derive [] }
derive_macro function (Some read) = record { name = read.name; kind = derive read.helpers }

-- which procedural macro a function declares, if it declares one
abbrev pub proc_macro_of : List Attr → Name → Option MacroDecl
proc_macro_of attrs function =
    cond (has_attr proc_macro_name attrs) (Some (record { name = function; kind = bang }))
    (cond (has_attr proc_macro_attribute_name attrs) (Some (record { name = function; kind = attribute }))
    (cond (has_attr proc_macro_derive_name attrs) (Some (derive_macro function (derive_declared attrs))) None))
