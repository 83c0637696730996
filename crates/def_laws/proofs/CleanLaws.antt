-- No name fails where a module is added or changed.
use Rattle.std.proofs.Common.{◌≡◌, ℕ, zero, suc, Bool, true, false, List, [], ◌∷◌, map, length, All, Option, Some, None, refl, sym, subst}
use Rattle.std.proofs.lemmas.List.Elements.{All-cons, All-head, All-tail, All-push}
use Rattle.either.specs.declared.Either.TheVariants.{Right}
use Rattle.tree_ids.specs.declared.ids.FileAstId.{FileAstId}
use Rattle.tree_ids.specs.declared.ids.InFile.{InFile}
use Rattle.tree_ids.specs.declared.ids.MacroCallId.{MacroCallId}
use Rattle.tree_ids.specs.declared.ids.ModItemId.{ModItemId}
use Rattle.tree_ids.specs.declared.ids.TreeId.{TreeId}
use Rattle.item_tree.specs.declared.items.ItemNode.{ItemNode}
use Rattle.tree_ids.specs.declared.name.Name.{Name}
use Rattle.def_ids.specs.declared.ids.Adt.{Adt}
use Rattle.def_ids.specs.declared.ids.BuiltinDeriveImplId.{BuiltinDeriveImplId}
use Rattle.def_ids.specs.declared.ids.MacroId.{MacroId}
use Rattle.def_ids.specs.declared.ids.ModuleId.{ModuleId}
use Rattle.def_ids.specs.declared.ids.Def.{Def}
use Rattle.def_bindings.specs.declared.visibility.Visibility.{Visibility}
use Rattle.def_interner.specs.declared.macro_def.MacroDefId.{MacroDefId}
use Rattle.def_interner.specs.Session.{Session}
use Rattle.def_oracle.specs.Oracle.{Oracle}
use Rattle.def_modules.specs.declared.module_data.ModuleOrigin.{ModuleOrigin}
use Rattle.def_modules.specs.Maps.{pushed, with_helper, with_macro_use, with_module}
use Rattle.def_modules.specs.MapState.{MapState, ModuleState, ShownHelper}
use Rattle.def_modules.specs.Scopes.{called_at, with_derive_impl, declared_in, with_child, with_invocation}
use Rattle.def_modules.specs.Updates.{update_at}
use Rattle.def_rules.specs.declared.inner_calls.InnerCall.{InnerCall}
use Rattle.def_rules.specs.Calls.{each_helped, expansion_tree, helped, invoking, recording_inner, replaced_by, with_helpers}
use Rattle.def_rules.specs.Derives.{derived_map, helper_names, helper_of, with_derive_call, with_shown_helpers}
use Rattle.def_rules.specs.Items.{node_at, top_items}
use Rattle.def_rules.specs.Macros.{showing_helpers, taking}
use Rattle.def_rules.specs.Modules.{add_module, fresh_module}
use Rattle.def_readings.specs.DeriveNames.{NameAndHelpers}
use Rattle.def_rules.specs.declared.deferred.DeferredDerive.{DeferredDerive}
use Rattle.def_rules.specs.Deferred.{AreGiven, giving_impls, last_of, naming_impl, with_impls}
use Rattle.def_rules.specs.State.{State}
use Rattle.def_rules.specs.Waiting.{MacroDirective, WrittenDerive}
use Rattle.def_laws.specs.Finished.{NoneFailed}

all_updated : {X : Type 0} (P : X → Type 0) (xs : List X) (i : ℕ) (f : X → X) → ((x : X) → P x → P (f x)) → All P xs → All P (update_at xs i f)
all_updated P [] i f keeps all = all
all_updated P (x ∷ xs) zero f keeps all = All-cons P (f x) xs (keeps x (All-head P x xs all)) (All-tail P x xs all)
all_updated P (x ∷ xs) (suc i) f keeps all = All-cons P x (update_at xs i f) (All-head P x xs all) (all_updated P xs i f keeps (All-tail P x xs all))

-- no name failed in a module
abbrev pub IsClean : ModuleState → Type 0
IsClean d = (name : Name) → d.failed name ≡ false

-- none fails in a module that is changed but for its failed names
pub none_failed-with_module : (m : MapState) (i : ℕ) (f : ModuleState → ModuleState) → ((d : ModuleState) → IsClean d → IsClean (f d)) → NoneFailed m → NoneFailed (with_module m i f)
none_failed-with_module m i f keeps none = all_updated IsClean m.modules i f keeps none

pub none_failed-declare : (m : MapState) (i : ℕ) (d : Def) → NoneFailed m → NoneFailed (with_module m i (declared_in d))
none_failed-declare m i d none = none_failed-with_module m i (declared_in d) (λ e h. h) none

pub none_failed-pushed : (m : MapState) (i : ℕ) (d : ModuleState) → IsClean d → NoneFailed m → NoneFailed (pushed m i d)
none_failed-pushed m i d clean none = All-push IsClean m.modules d none clean

-- nor where macros are taken, calls made, or helpers exported
pub none_failed-taking : (brought : List (Name × MacroId)) (m : MapState) → NoneFailed m → NoneFailed (taking brought m)
none_failed-taking [] m none = none
none_failed-taking (one ∷ rest) m none = none_failed-taking rest (with_macro_use m one.0 one.1) none

pub none_failed-invoking : (at : ℕ) (calls : List (InFile FileAstId × MacroCallId)) (m : MapState) → NoneFailed m → NoneFailed (invoking at calls m)
none_failed-invoking at [] m none = none
none_failed-invoking at (call ∷ calls) m none =
    none_failed-invoking at calls (with_module m at (with_invocation call.0 call.1)) (none_failed-with_module m at (with_invocation call.0 call.1) (λ d h. h) none)

pub none_failed-inner : (calls : List InnerCall) (m : MapState) → NoneFailed m → NoneFailed (recording_inner calls m)
none_failed-inner [] m none = none
none_failed-inner (made ∷ calls) m none =
    none_failed-inner calls (with_module m made.module_id.index (with_invocation made.position made.call)) (none_failed-with_module m made.module_id.index (with_invocation made.position made.call) (λ d h. h) none)

pub none_failed-showing_helpers : (in_block : Bool) (id : MacroId) (read : Option NameAndHelpers) (m : MapState) → NoneFailed m → NoneFailed (showing_helpers in_block id read m)
none_failed-showing_helpers in_block id None m none = none
none_failed-showing_helpers true id (Some read) m none = none
none_failed-showing_helpers false id (Some read) m none = none

none_failed-helpers : (position : InFile FileAstId) (helpers : List ShownHelper) (m : MapState) → NoneFailed m → NoneFailed (with_helpers m position helpers)
none_failed-helpers position [] m none = none
none_failed-helpers position (helper ∷ helpers) m none = none_failed-helpers position helpers (with_helper m position helper) none

none_failed-helped : (tree : TreeId) (helpers : List ShownHelper) (item : Option ItemNode) (m : MapState) → NoneFailed m → NoneFailed (helped m tree helpers item)
none_failed-helped tree helpers None m none = none
none_failed-helped tree helpers (Some item) m none = none_failed-helpers (record { file = tree.file; value = item.ast_id }) helpers m none

none_failed-each : (oracle : Oracle) (tree : TreeId) (helpers : List ShownHelper) (ids : List ModItemId) (m : MapState) → NoneFailed m → NoneFailed (each_helped oracle m tree helpers ids)
none_failed-each oracle tree helpers [] m none = none
none_failed-each oracle tree helpers (id ∷ ids) m none =
    none_failed-each oracle tree helpers ids (helped m tree helpers (node_at oracle tree id)) (none_failed-helped tree helpers (node_at oracle tree id) m none)

pub none_failed-replaced : (oracle : Oracle) (call : MacroCallId) (replaces : Option (InFile FileAstId)) (m : MapState) → NoneFailed m → NoneFailed (replaced_by oracle m call replaces)
none_failed-replaced oracle call None m none = none
none_failed-replaced oracle call (Some position) m none = none_failed-each oracle (expansion_tree call) (m.helpers position) (top_items oracle (expansion_tree call)) m none

pub none_failed-shown : (oracle : Oracle) (m : MapState) (d : MacroDirective) (found : MacroDefId) (call : MacroCallId) → NoneFailed m → NoneFailed (with_shown_helpers oracle m d found call)
none_failed-shown oracle m d found call none = none_failed-helpers d.position (map (helper_of found call) (helper_names oracle m.id.krate found)) m none

pub none_failed-derived : (oracle : Oracle) (m : MapState) (d : MacroDirective) (written : WrittenDerive) (found : MacroDefId) (call : MacroCallId) → NoneFailed m → NoneFailed (derived_map oracle m d written found call)
none_failed-derived oracle m d written found call none =
    none_failed-with_module (with_shown_helpers oracle m d found call) d.scope.index (with_derive_call d written call) (λ e h. h) (none_failed-shown oracle m d found call none)

none_failed-impls : (at : ModuleId) (ids : List BuiltinDeriveImplId) (m : MapState) → NoneFailed m → NoneFailed (with_impls m at ids)
none_failed-impls at [] m none = none
none_failed-impls at (id ∷ ids) m none = none_failed-impls at ids (with_module m at.index (with_derive_impl id)) (none_failed-with_module m at.index (with_derive_impl id) (λ e h. h) none)

none_failed-naming : (at : ModuleId) (position : InFile FileAstId) (derive : DeferredDerive) (last : Option BuiltinDeriveImplId) (m : MapState) → NoneFailed m → NoneFailed (naming_impl m at position derive last)
none_failed-naming at position derive None m none = none
none_failed-naming at position derive (Some id) m none = none_failed-with_module m at.index (called_at position derive.attr_id derive.pos (Right id)) (λ e h. h) none

pub none_failed-given : (oracle : Oracle) (session : Session) (at : ModuleId) (position : InFile FileAstId) (adt : Adt) (derives : List DeferredDerive) (m new : MapState) → AreGiven oracle session at position adt derives m new → NoneFailed m → NoneFailed new
none_failed-given oracle session at position adt [] m new same none = subst NoneFailed (sym same) none
none_failed-given oracle session at position adt (derive ∷ derives) m new (ids, are, rest) none =
    none_failed-given oracle session at position adt derives (giving_impls m at position derive ids) new rest
    (none_failed-naming at position derive (last_of None ids) (with_impls m at ids) (none_failed-impls at ids m none))

pub none_failed-add_module : (s : State) (at : ModuleId) (name : Name) (vis : Visibility) (o : ModuleOrigin) → NoneFailed s.map → NoneFailed (add_module s at name vis o).map
none_failed-add_module s at name vis o none =
    let grown : MapState = pushed s.map at.index (fresh_module s.map at.index name vis o) in
    let linked : MapState = with_module grown at.index (with_child name (length s.map.modules)) in
    none_failed-declare linked at.index _
    (none_failed-with_module grown at.index (with_child name (length s.map.modules)) (λ e h. h) (none_failed-pushed s.map at.index (fresh_module s.map at.index name vis o) (λ n. refl) none))
