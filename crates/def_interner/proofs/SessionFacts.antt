-- Worked rows of what a session shows.
use Rattle.std.specs.Prelude.{◌≡◌, [], ◌∷◌, Some, None, codes, refl}
use Rattle.tree_ids.specs.declared.ids.HirFileId.TheVariants.{File}
use Rattle.def_interner.specs.Interner.{first_tables}
use Rattle.def_ids.specs.Ids.{crate_root}
use Rattle.def_interner.specs.Session.{session_of, shown_item, shown_macro, macro_def, macro_kind, FunctionItem, StructItem, UnionItem}
use Rattle.def_ids.specs.declared.ids.ItemContainerId.TheVariants.{Module, ExternBlock}
use Rattle.def_ids.specs.declared.ids.MacroId.TheVariants.{MacroRules, Macro2, ProcMacro}
use Rattle.def_interner.specs.declared.interner.Interner.{Interner}
use Rattle.def_ids.specs.declared.locs.MacroRulesLoc.{MacroRulesLoc}
use Rattle.def_ids.specs.declared.expander.CustomProcMacroExpander.TheVariants.{Id}
use Rattle.def_ids.specs.declared.edition.Edition.TheVariants.{Edition2021, Edition2024}
use Rattle.def_interner.specs.declared.macro_def.MacroDefKind.TheVariants as kind
use Rattle.def_ids.specs.declared.expander.MacroExpander.TheVariants as expander
use Rattle.def_ids.specs.declared.expander.ProcMacroUse.TheVariants.{Attr}
use Rattle.tree_ids.specs.declared.ids.FileAstId.{FileAstId}
use Rattle.tree_ids.specs.declared.ids.InFile.{InFile}

-- the first known names
pub first_names : ((session_of first_tables).text (record { 0 = 0 }) ≡ Some (codes "self")) × ((session_of first_tables).text (record { 0 = 31 }) ≡ Some (codes "rust_analyzer")) × ((session_of first_tables).text (record { 0 = 32 }) ≡ None)
first_names = (refl, refl, refl)

-- a session begins without locations
pub no_struct : (session_of first_tables).item StructItem 0 ≡ None
unfolding shown_item
no_struct = refl

-- item 5 of file 2
abbrev position : InFile FileAstId
position = record { file = File (record { 0 = 2 }); value = record { 0 = 5 } }

-- a session with one struct, at the root of crate 0
abbrev one_struct : Interner
one_struct = record first_tables { structs = record { container = crate_root (record { 0 = 0 }); position = position } ∷ [] }

-- the struct is shown in its module, under its own kind and number alone
pub struct_shown : ((session_of one_struct).item StructItem 0 ≡ Some (record { container = Module (crate_root (record { 0 = 0 })); position = position })) × ((session_of one_struct).item StructItem 1 ≡ None) × ((session_of one_struct).item UnionItem 0 ≡ None)
unfolding shown_item
struct_shown = (refl, refl, refl)

-- a session with one function, in extern block 4
abbrev one_function : Interner
one_function = record first_tables { functions = record { container = ExternBlock (record { 0 = 4 }); position = position } ∷ [] }

-- a function is shown in what it stands in, which need not be a module
pub function_shown : ((session_of one_function).item FunctionItem 0 ≡ Some (record { container = ExternBlock (record { 0 = 4 }); position = position })) × ((session_of one_function).item StructItem 0 ≡ None)
unfolding shown_item
function_shown = (refl, refl)

-- a local `macro_rules` macro of crate 3 that allows unsafe code, and may be called as `m!(..)`
abbrev rules : MacroRulesLoc
rules =
    record {
      container = crate_root (record { 0 = 3 });
      position = position;
      expander = expander.Declarative (record { 0 = 1 });
      flags = record { 0 = 2 };
      edition = Edition2021;
    }

abbrev one_macro : Interner
one_macro = record first_tables { macro_rules = rules ∷ [] }

-- its flags are shown whole
pub flags_shown : (session_of one_macro).macro_at (MacroRules (record { 0 = 0 })) ≡ Some (record { container = crate_root (record { 0 = 3 }); position = position; kind = kind.Declarative (record { 0 = 1 }); flags = record { 0 = 2 }; edition = Edition2021 })
unfolding shown_macro
flags_shown = refl

-- its crate is its module's
pub macro_shown : macro_def (session_of one_macro) (MacroRules (record { 0 = 0 })) ≡ Some (record { krate = record { 0 = 3 }; id = MacroRules (record { 0 = 0 }); kind = kind.Declarative (record { 0 = 1 }) })
unfolding shown_macro
macro_shown = refl

-- a `macro` item of that number is another macro
pub other_kind : macro_def (session_of one_macro) (Macro2 (record { 0 = 0 })) ≡ None
unfolding shown_macro
other_kind = refl

-- a `macro` item that is a builtin, and a procedural attribute macro, both of crate 3
abbrev two_macros : Interner
two_macros =
    record first_tables {
      macro2s = record { container = crate_root (record { 0 = 3 }); position = position; expander = expander.BuiltInEager 6; flags = record { 0 = 2 }; edition = Edition2024 } ∷ [];
      proc_macros = record { container = crate_root (record { 0 = 3 }); position = position; expander = Id 8; kind = Attr; edition = Edition2021 } ∷ [];
    }

-- a `macro` item has the kind of its expander, its own flags and its edition
pub macro_item_shown : (session_of two_macros).macro_at (Macro2 (record { 0 = 0 })) ≡ Some (record { container = crate_root (record { 0 = 3 }); position = position; kind = kind.BuiltInEager 6; flags = record { 0 = 2 }; edition = Edition2024 })
unfolding shown_macro
macro_item_shown = refl

-- a procedural macro has no flags, and is of the kind that it was declared with
pub procedural_shown : (session_of two_macros).macro_at (ProcMacro (record { 0 = 0 })) ≡ Some (record { container = crate_root (record { 0 = 3 }); position = position; kind = kind.ProcMacro (Id 8) Attr; flags = record { 0 = 0 }; edition = Edition2021 })
unfolding shown_macro
procedural_shown = refl

-- each kind of macro has numbers of its own
pub kinds_by_number : (macro_kind (session_of two_macros) (Macro2 (record { 0 = 0 })) ≡ Some (kind.BuiltInEager 6)) × (macro_kind (session_of two_macros) (MacroRules (record { 0 = 0 })) ≡ None)
unfolding shown_macro
kinds_by_number = (refl, refl)
