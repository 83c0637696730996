-- Procedural macros: what a function of such a crate's root exports, how it is taken out of values, and what stays public there.
use Rattle.std.specs.Prelude.{◌≡◌, ℕ, Bool, true, false, cond, not, ◌&&◌, List, [], ◌∷◌, Option, None, Some, is_none, map, option_map}
use Rattle.std.specs.Option.{option_map_or}
use Rattle.tree_ids.specs.declared.ids.Crate.{Crate}
use Rattle.tree_ids.specs.declared.name.Name.{Name}
use Rattle.item_tree.specs.declared.items.ItemNode.{ItemNode}
use Rattle.item_tree.specs.Attrs.{attrs_of}
use Rattle.item_tree.specs.KnownNames.{name_eq}
use Rattle.def_ids.specs.declared.edition.Edition.{Edition}
use Rattle.def_ids.specs.declared.ids.Def.{Def}
use Rattle.def_ids.specs.declared.ids.Def.TheVariants as def
use Rattle.def_ids.specs.declared.ids.FunctionId.{FunctionId}
use Rattle.def_ids.specs.declared.ids.MacroId.{MacroId}
use Rattle.def_ids.specs.declared.ids.MacroId.TheVariants as macro_of
use Rattle.def_ids.specs.declared.ids.ModuleId.{ModuleId}
use Rattle.def_ids.specs.declared.ids.ProcMacroId.{ProcMacroId}
use Rattle.def_ids.specs.declared.expander.CustomProcMacroExpander.{CustomProcMacroExpander}
use Rattle.def_ids.specs.declared.expander.CustomProcMacroExpander.TheVariants.{Id, Missing, Disabled, DisabledAttr}
use Rattle.def_ids.specs.declared.expander.ProcMacroUse.{ProcMacroUse}
use Rattle.def_ids.specs.declared.expander.ProcMacroUse.TheVariants.{CustomDerive, Bang, Attr}
use Rattle.def_interner.specs.declared.macro_def.MacroDefKind.TheVariants.{ProcMacro}
use Rattle.def_interner.specs.Session.{MacroLoc}
use Rattle.def_bindings.specs.declared.bindings.Binding.{Binding}
use Rattle.def_bindings.specs.declared.bindings.Namespace.TheVariants.{Macros, Values}
use Rattle.def_bindings.specs.declared.visibility.Visibility.{Visibility}
use Rattle.def_bindings.specs.declared.visibility.Visibility.TheVariants.{PubCrate, Public}
use Rattle.def_bindings.specs.Content.{Content, without_binding}
use Rattle.def_modules.specs.Equality.{function_eq}
use Rattle.def_modules.specs.Maps.{paired, with_exported, with_macro_at}
use Rattle.def_modules.specs.MapState.{CrateState, MapState}
use Rattle.def_oracle.specs.declared.source_database.CrateData.{CrateData}
use Rattle.def_oracle.specs.Oracle.{Oracle}
use Rattle.def_readings.specs.ProcMacros.{MacroDecl, MacroKind, attribute, bang, derive, proc_macro_of}
use Rattle.def_rules.specs.Items.{declare, declared_effect, position_of, put_declared}
use Rattle.def_rules.specs.State.{State, Effect, Site, TakeOut, TookOut, followed_by, noting, only, root, with_content, with_map}
use Rattle.def_rules.specs.Targets.{is_censored, leaves_out}

-- What expands a procedural macro

-- how a procedural macro is called
abbrev pub use_of : MacroKind → ProcMacroUse
use_of (derive helpers) = CustomDerive
use_of bang = Bang
use_of attribute = Attr

-- whether it is called as an attribute
abbrev pub is_attr_macro : MacroKind → Bool
is_attr_macro attribute = true
is_attr_macro _ = false

-- the macros that were built for a crate: of one whose data do not say that it is one of procedural macros, none
abbrev pub built_for : Oracle → Crate → List (Name × ℕ × Bool)
built_for oracle krate = option_map_or (λ (known : CrateData). cond known.proc_macro (oracle.proc_macros krate) []) (oracle.crate_data krate) []

-- the first of them that has a name
abbrev pub built_as : Name → List (Name × ℕ × Bool) → Option (ℕ × Bool)
built_as name [] = None
built_as name (entry ∷ entries) = cond (name_eq entry.0 name) (Some (entry.1, entry.2)) (built_as name entries)

-- what was built, unless it is switched off
abbrev pub if_enabled : ℕ × Bool → CustomProcMacroExpander
if_enabled entry = cond entry.1 Disabled (Id entry.0)

-- what expands a macro that was built, or was not; where attribute macros are not expanded, nothing expands one
abbrev pub expander_by : Bool → MacroKind → Option (ℕ × Bool) → CustomProcMacroExpander
expander_by expands kind None = Missing
expander_by expands kind (Some entry) = cond (is_attr_macro kind && not expands) DisabledAttr (if_enabled entry)

-- what expands the macro that a function of a crate declares
abbrev pub proc_expander : Oracle → Crate → MacroDecl → CustomProcMacroExpander
proc_expander oracle krate decl = expander_by oracle.expand_proc_attr_macros decl.kind (built_as decl.name (built_for oracle krate))

-- where it stands, and what it is
abbrev pub proc_loc : Oracle → MapState → Site → ItemNode → MacroDecl → MacroLoc
proc_loc oracle m site item decl =
    record { container = site.scope; position = position_of site item; kind = ProcMacro (proc_expander oracle m.id.krate decl) (use_of decl.kind); flags = record { 0 = 0 }; edition = m.krate.edition }

-- What a function exports

-- the macro that a function exports: only in the root of a crate of procedural macros
abbrev pub exported_macro : State → Site → ItemNode → Name → Option MacroDecl
exported_macro s site item name = cond (leaves_out s site.scope) (proc_macro_of (attrs_of item.attrs) name) None

-- a derive's helpers are shown to other crates
abbrev pub showing_derive : MacroKind → MacroId → CrateState → CrateState
showing_derive (derive helpers) id c = with_exported c id helpers
showing_derive bang id c = c
showing_derive attribute id c = c

-- the map in which a function and its macro lead to each other, and the macro's helpers are shown
abbrev pub pairing : MapState → FunctionId → ProcMacroId → MacroKind → MapState
pairing m function id kind = record m { krate = showing_derive kind (macro_of.ProcMacro id) (paired m.krate function id) }

-- and the item's position leads to the macro
abbrev pub paired_at : MapState → Site → ItemNode → FunctionId → ProcMacroId → MacroKind → MapState
paired_at m site item function id kind = with_macro_at (pairing m function id kind) (position_of site item) (macro_of.ProcMacro id)

-- the state in which a function exports a macro: the macro is declared in the root, too
abbrev pub exporting : State → Site → ItemNode → FunctionId → ProcMacroId → MacroKind → State
exporting s site item function id kind = declare (with_map s (paired_at s.map site item function id kind)) (root s.map) (def.Macro (macro_of.ProcMacro id))

-- what such a function does: it is put in values, its macro in the root's macros, public, and then it is taken out of values
abbrev pub exported_effect : State → Site → ItemNode → Name → Visibility → FunctionId → MacroDecl → ProcMacroId → Effect
exported_effect s site item name vis function decl id =
    followed_by (exporting (declare s site.scope (def.Function function)) site item function id decl.kind)
    (put_declared site.scope name Values (def.Function function) vis ∷ put_declared (root s.map) decl.name Macros (def.Macro (macro_of.ProcMacro id)) Public ∷ TakeOut site.scope name function ∷ [])

-- a function is declared, and may export a macro
abbrev pub DeclaresFunction : Oracle → State → Site → ItemNode → Name → Visibility → FunctionId → Option MacroDecl → Effect → Type 0
DeclaresFunction oracle s site item name vis function None effect = effect ≡ declared_effect s site.scope name Values (def.Function function) vis
DeclaresFunction oracle s site item name vis function (Some decl) effect =
    (id : ProcMacroId) × (s.session.macro_at (macro_of.ProcMacro id) ≡ Some (proc_loc oracle s.map site item decl)) × (effect ≡ exported_effect s site item name vis function decl id)

-- How a function is taken out

-- whether a definition is this function
abbrev pub is_function : FunctionId → Def → Bool
is_function function (def.Function f) = function_eq function f
is_function function _ = false

-- whether a module binds it to a name in values
abbrev pub binds_function : Content Visibility → ModuleId → Name → FunctionId → Bool
binds_function c at name function = option_map_or (λ (held : Binding Visibility). is_function function held.def) (c.binding at name Values) false

-- whether it is taken out: where the root of a crate of procedural macros binds it
abbrev pub takes_out : State → ModuleId → Name → FunctionId → Bool
takes_out s at name function = leaves_out s at && binds_function s.content at name function

-- it is taken out, and that is noted
abbrev pub taken_out : State → ModuleId → Name → FunctionId → Bool → Effect
taken_out s at name function true = noting (TookOut at name function) (only (with_content s (without_binding s.content at name Values)))
taken_out s at name function false = only s

-- What stays public

-- whether a definition is a procedural macro
abbrev pub is_proc_macro : Def → Bool
is_proc_macro (def.Macro (macro_of.ProcMacro id)) = true
is_proc_macro _ = false

-- whether a binding is that of a procedural macro which is declared there
abbrev pub is_declared_macro : Binding Visibility → Bool
is_declared_macro held = is_proc_macro held.def && is_none held.import

-- what is public is seen in its crate alone
abbrev pub crate_only : Visibility → Visibility
crate_only Public = PubCrate
crate_only vis = vis

-- so is each binding, but for the crate's procedural macros
abbrev pub censored_binding : Binding Visibility → Binding Visibility
censored_binding held = cond (is_declared_macro held) held (record held { vis = crate_only held.vis })

-- so are the bindings and the unnamed traits of these modules
abbrev pub censored_in : (ModuleId → Bool) → Content Visibility → Content Visibility
censored_in censors c =
    record c {
      binding = λ at name ns. cond (censors at) (option_map censored_binding (c.binding at name ns)) (c.binding at name ns);
      unnamed = λ at. cond (censors at) (map (λ t. (t.0, crate_only t.1)) (c.unnamed at)) (c.unnamed at);
    }

-- the table in which the root of a crate of procedural macros shows other crates these macros alone
abbrev pub censored : State → Content Visibility
censored s = censored_in (is_censored s) s.content
