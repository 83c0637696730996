-- Derives: which macro the path of a derive's list names, what it is asked, and what is recorded of it.
use Rattle.std.specs.Prelude.{ℕ, suc, Bool, true, false, ◌==◌, cond, List, [], ◌∷◌, map, Option, None, Some, unwrap_or, Result, Ok, Err}
use Rattle.either.specs.declared.Either.TheVariants.{Left}
use Rattle.tree_ids.specs.declared.ids.AttrId.{AttrId}
use Rattle.tree_ids.specs.declared.ids.Crate.{Crate}
use Rattle.tree_ids.specs.declared.ids.MacroCallId.{MacroCallId}
use Rattle.tree_ids.specs.declared.ids.SyntaxContext.{SyntaxContext}
use Rattle.item_tree.specs.declared.items.ItemNode.{ItemNode}
use Rattle.item_tree.specs.declared.items.ModItemKind.{ModItemKind}
use Rattle.item_tree.specs.declared.items.ModItemKind.TheVariants.{Struct, Union, Enum}
use Rattle.item_tree.specs.declared.mod_path.ModPath.{ModPath}
use Rattle.tree_ids.specs.declared.name.Name.{Name}
use Rattle.def_ids.specs.declared.ids.MacroId.{MacroId}
use Rattle.def_ids.specs.declared.ids.ModuleId.{ModuleId}
use Rattle.def_interner.specs.declared.macro_def.MacroDefId.{MacroDefId}
use Rattle.def_interner.specs.MacroKinds.{is_derive}
use Rattle.def_modules.specs.Maps.{with_module}
use Rattle.def_modules.specs.MapState.{MapState, ModuleState, ShownHelper}
use Rattle.def_modules.specs.MapView.{MapView}
use Rattle.def_modules.specs.Scopes.{called_at, with_derive}
use Rattle.def_oracle.specs.declared.source_database.DeriveCallQuery.{DeriveCallQuery}
use Rattle.def_oracle.specs.Oracle.{Oracle}
use Rattle.def_sources.specs.declared.asked.BuiltinShadowMode.TheVariants as shadow
use Rattle.def_sources.specs.declared.per_ns.MacroSubNs.TheVariants as sub
use Rattle.def_paths.specs.Paths.{resolver}
use Rattle.def_sources.specs.Sources.{World}
use Rattle.def_rules.specs.declared.diagnostics.DefDiagnosticKind.{DefDiagnosticKind}
use Rattle.def_rules.specs.declared.diagnostics.DefDiagnosticKind.TheVariants.{InvalidDeriveTarget, MalformedDerive}
use Rattle.def_rules.specs.Calls.{deeper, with_helpers}
use Rattle.def_rules.specs.State.{State, with_map}
use Rattle.def_rules.specs.Waiting.{Derive, MacroDirective, WrittenAttr, WrittenDerive}

-- The list

-- whether an item of this kind may have derives: a struct, a union or an enum
abbrev pub derives_kind : ModItemKind → Bool
derives_kind (Struct name raw ctor) = true
derives_kind (Union name raw) = true
derives_kind (Enum name raw) = true
derives_kind _ = false

-- whether an item is there, and may
abbrev pub may_derive : Option ItemNode → Bool
may_derive None = false
may_derive (Some item) = derives_kind item.kind

-- the paths that a derive attribute lists; one without a list is malformed
abbrev pub listed_paths : WrittenAttr → Option (List (ModPath × SyntaxContext)) → Result (List (ModPath × SyntaxContext)) DefDiagnosticKind
listed_paths written None = Err (MalformedDerive written.id)
listed_paths written (Some paths) = Ok paths

-- those that are to be tried; one on an item that may not have derives has the wrong target
abbrev pub derive_paths : WrittenAttr → Bool → Result (List (ModPath × SyntaxContext)) DefDiagnosticKind
derive_paths written true = listed_paths written written.attr.paths
derive_paths written false = Err (InvalidDeriveTarget written.id)

-- the paths of a derive's list from this place on, with the attribute and its call
abbrev pub derives_from : AttrId → MacroCallId → ℕ → List (ModPath × SyntaxContext) → List WrittenDerive
derives_from id call pos [] = []
derives_from id call pos (path ∷ paths) = record { id = id; pos = pos; path = path.0; ctxt = path.1; call = call } ∷ derives_from id call (suc pos) paths

-- how a derive waits: one level deeper than its attribute
abbrev pub derive_directive : MacroDirective → WrittenDerive → MacroDirective
derive_directive directive written =
    record { scope = directive.scope; container = directive.container; position = directive.position; depth = deeper directive.depth; kind = Derive written }

-- the map in which a derive attribute is recorded with its call, and none of its paths has one yet
abbrev pub with_list : MapState → MacroDirective → AttrId → MacroCallId → List (ModPath × SyntaxContext) → MapState
with_list m directive id call paths = with_module m directive.scope.index (with_derive directive.position id (record { call = call; calls = map (λ path. None) paths }))

-- The macro of a derive

-- a macro counts only where it can be derived
abbrev pub if_derive : Option MacroDefId → Option MacroDefId
if_derive None = None
if_derive (Some found) = cond (is_derive found.kind) (Some found) None

-- the macro of a derive, once imports are resolved
abbrev pub derive_macro : World → ModuleId → WrittenDerive → Option MacroDefId
derive_macro w at written = if_derive (resolver w shadow.Module sub.Attr at written.path)

-- what it is asked with
abbrev pub derive_query : Crate → MacroDirective → WrittenDerive → MacroDefId → DeriveCallQuery
derive_query krate directive written found =
    record {
      krate = krate;
      macro_def = found;
      position = directive.position;
      attr_id = written.id;
      pos = written.pos;
      ctxt = written.ctxt;
      derive_call = written.call;
      depth = directive.depth;
    }

-- The helpers of a derive

-- the helpers that the map of a crate shows of a macro
abbrev pub shown_in : Option MapView → MacroId → List Name
shown_in None id = []
shown_in (Some shown) id = unwrap_or (shown.facts.exported_helpers id) []

-- those of a macro that another crate defines; a crate's own count nowhere in it
abbrev pub helper_names : Oracle → Crate → MacroDefId → List Name
helper_names oracle krate found = cond (found.krate.0 == krate.0) [] (shown_in (oracle.crate_def_map found.krate) found.id)

-- a helper of the derive that gave this call
abbrev pub helper_of : MacroDefId → MacroCallId → Name → ShownHelper
helper_of found call name = record { name = name; macro_id = found.id; by = Left call }

-- What is recorded

-- a module in which a derive's call stands at its place
abbrev pub with_derive_call : MacroDirective → WrittenDerive → MacroCallId → ModuleState → ModuleState
with_derive_call directive written call = called_at directive.position written.id written.pos (Left call)

-- the map in which the helpers that the crate of a derive's macro shows are read at its item
abbrev pub with_shown_helpers : Oracle → MapState → MacroDirective → MacroDefId → MacroCallId → MapState
with_shown_helpers oracle m directive found call = with_helpers m directive.position (map (helper_of found call) (helper_names oracle m.id.krate found))

-- the map in which a derive has its call too, which stands at the derive's place
abbrev pub derived_map : Oracle → MapState → MacroDirective → WrittenDerive → MacroDefId → MacroCallId → MapState
derived_map oracle m directive written found call =
    with_module (with_shown_helpers oracle m directive found call) directive.scope.index (with_derive_call directive written call)

-- so the state
abbrev pub derived : Oracle → State → MacroDirective → WrittenDerive → MacroDefId → MacroCallId → State
derived oracle s directive written found call = with_map s (derived_map oracle s.map directive written found call)

-- the call that a derive is given
abbrev pub derive_call : Oracle → State → MacroDirective → WrittenDerive → MacroDefId → MacroCallId
derive_call oracle s directive written found = oracle.make_derive_call (derive_query s.map.id.krate directive written found)
