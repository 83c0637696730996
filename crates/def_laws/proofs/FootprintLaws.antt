-- What a rule does to a run, as laws read it.
use Rattle.std.proofs.Common.{◌≡◌, ◌⊎◌, ◌<◌, ◌≤◌, ◌+◌, ◌∙◌, append-nil, arith, nat_eq, nat_lt, ℕ, Bool, true, false, cond, ◌||◌, List, [], ◌∷◌, ◌++◌, length, Option, Some, None, is_some, Result, Ok, Err, Contains, refl, sym, ap, subst, inl, inr}
use Rattle.std.proofs.lemmas.Bool.{ltb-true}
use Rattle.std.proofs.lemmas.List.Elements.{Contains-append_cases}
use Rattle.item_tree.specs.declared.attrs.Attr.{Attr}
use Rattle.tree_ids.specs.declared.ids.AttrId.{AttrId}
use Rattle.tree_ids.specs.declared.ids.CfgExpr.{CfgExpr}
use Rattle.tree_ids.specs.declared.ids.FileAstId.{FileAstId}
use Rattle.tree_ids.specs.declared.ids.InFile.{InFile}
use Rattle.tree_ids.specs.declared.ids.MacroCallId.{MacroCallId}
use Rattle.tree_ids.specs.declared.ids.ModItemId.{ModItemId}
use Rattle.item_tree.specs.declared.items.ItemNode.{ItemNode}
use Rattle.item_tree.specs.declared.items.ModContents.{ModContents}
use Rattle.item_tree.specs.declared.items.ModContents.TheVariants.{Inline, Outline}
use Rattle.item_tree.specs.declared.items.RawVisibility.{RawVisibility}
use Rattle.item_tree.specs.declared.items.UseImport.{UseImport}
use Rattle.tree_ids.specs.declared.name.Name.{Name}
use Rattle.item_tree.specs.Attrs.{attrs_of, disabled_by, has_attr, iter_after, path_attr}
use Rattle.item_tree.specs.KnownNames.{macro_export_name}
use Rattle.def_ids.specs.declared.ids.Def.{Def}
use Rattle.def_ids.specs.declared.ids.Def.TheVariants as def
use Rattle.def_ids.specs.declared.ids.ExternCrateId.{ExternCrateId}
use Rattle.def_ids.specs.declared.ids.FunctionId.{FunctionId}
use Rattle.def_ids.specs.declared.ids.GlobId.{GlobId}
use Rattle.def_ids.specs.declared.ids.ItemContainerId.TheVariants as contained
use Rattle.def_ids.specs.declared.ids.MacroId.{MacroId}
use Rattle.def_ids.specs.declared.ids.MacroId.TheVariants as macro_of
use Rattle.def_ids.specs.declared.ids.ModuleId.{ModuleId}
use Rattle.def_ids.specs.declared.ids.ProcMacroId.{ProcMacroId}
use Rattle.def_ids.specs.declared.ids.UseId.{UseId}
use Rattle.def_ids.specs.declared.expander.MacroExpander.{MacroExpander}
use Rattle.def_ids.specs.declared.expander.MacroExpander.TheVariants.{Declarative, BuiltIn, BuiltInEager, BuiltInAttr, BuiltInDerive, UnimplementedBuiltIn}
use Rattle.def_bindings.specs.declared.bindings.ImportOrExternCrate.TheVariants.{Glob, ExternCrate as ByCrate}
use Rattle.def_bindings.specs.declared.bindings.Namespace.TheVariants.{Types, Values, Macros}
use Rattle.def_bindings.specs.declared.visibility.Visibility.{Visibility}
use Rattle.def_bindings.specs.declared.visibility.Visibility.TheVariants.{Public}
use Rattle.def_bindings.specs.Puts.{IsExplicit, Origin}
use Rattle.def_modules.specs.declared.module_data.ModuleOrigin.{ModuleOrigin}
use Rattle.def_modules.specs.declared.module_data.ModuleOrigin.TheVariants as origin
use Rattle.def_modules.specs.MapState.{MapState, ModuleState}
use Rattle.def_oracle.specs.declared.source_database.CallAnswer.{CallAnswer}
use Rattle.def_oracle.specs.declared.source_database.UnresolvedMacro.{UnresolvedMacro}
use Rattle.def_oracle.specs.Oracle.{Oracle}
use Rattle.def_modules.specs.Maps.{limit_of, textual_at, with_module}
use Rattle.def_modules.specs.Scopes.{brought, declared_in, with_extern_block, with_extern_crate, with_impl, with_textual, with_unnamed_const}
use Rattle.def_readings.specs.Directories.{Directory, FoundFile, descend}
use Rattle.def_readings.specs.DeriveNames.{NameAndHelpers}
use Rattle.def_readings.specs.ProcMacros.{MacroDecl}
use Rattle.def_globs.proofs.ListLaws.{none_in, in_cases, only_in}
use Rattle.def_rules.specs.declared.diagnostics.DefDiagnostic.{DefDiagnostic}
use Rattle.def_rules.specs.declared.diagnostics.DefDiagnosticKind.TheVariants.{UnconfiguredCode, UnimplementedBuiltinMacro, UnresolvedExternCrate, UnresolvedModule}
use Rattle.def_laws.specs.Depths.{AreVisitsBelow, DefersIn, WaitsAlike, deferred_work, depth_rank, kind_rank, macro_rank, visit_rank}
use Rattle.def_laws.specs.Finished.{NoneFailed}
use Rattle.def_laws.specs.Own.{AreOwnTasks, IsOwn, IsRecorded}
use Rattle.def_rules.specs.Attributes.{awaited_attr, awaiting, first_unknown}
use Rattle.def_rules.specs.Calls.{answered_effect, deeper, deepest, expansion_at, expansion_effect, expansion_site, expansion_tree, queued, told_effect, waiting, with_invocations, with_replaced}
use Rattle.def_rules.specs.Crates.{tree_attrs}
use Rattle.def_rules.specs.Globs.{Targets}
use Rattle.def_rules.specs.Items.{ctor_task, declare, declared_effect, diagnostic, ctor_vis, is_crate_root, is_prelude_import, node_at, noted_in, new_imports, position_of, put_declared, top_items, tree_cfg, walk, written_vis}
use Rattle.def_rules.specs.Macros.{export_effect, showing_helpers, item_expander, item_state, listed_helpers, macros_brought, rules_expander, taking_macros, textual_state, unimplemented_reported}
use Rattle.def_rules.specs.Modules.{add_module, bring_if, file_tree, inline_contents, inner_site, is_macro_use, module_item, name_text, next_module, outline_found, outline_item}
use Rattle.def_rules.specs.ProcMacros.{DeclaresFunction, exported_effect, exported_macro, exporting, paired_at}
use Rattle.def_rules.specs.ExternCrates.{crate_effect, crate_entry, crate_name, named_crate, naming_crate}
use Rattle.def_rules.specs.Rules.{HandlesByKind, HandlesInSession, Visits, VisitsAt, VisitsEnabled, VisitsNode, Rule, Follows, rule_of, declares, declares_function, declares_struct, opens_module, opens_block, queues, binds_crate, notes_impl, notes_const, defines_rules, defines_macro, calls_macro}
use Rattle.def_rules.specs.Imports.{no_namespaces}
use Rattle.def_rules.specs.State.{State, Effect, entered, followed_by, only, ImportDirective, Site, Task, Put, reported, root, with_map, with_missing}
use Rattle.def_rules.specs.Deferred.{GiveImpls, deferred_at}
use Rattle.def_rules.specs.Derives.{derives_kind}
use Rattle.def_rules.specs.declared.deferred.DeferredDerive.{DeferredDerive}
use Rattle.def_rules.specs.Waiting.{Deferrals, Expansion, FnLike, MacroDirective, MacroDirectiveKind, WrittenCall}
use Rattle.def_laws.proofs.DepthsLaws.{attr_ranks, call_ranks, deeper_ranks, lie_both, walk_lies}
use Rattle.def_laws.proofs.SoundLaws.{IsLarger}
use Rattle.def_laws.proofs.AddedLaws.{AddsNew, added_new, none_added}
use Rattle.def_laws.proofs.CleanLaws.{IsClean, none_failed-add_module, none_failed-given, none_failed-invoking, none_failed-replaced, none_failed-showing_helpers, none_failed-taking, none_failed-with_module}
use Rattle.def_laws.proofs.DeferredLaws.{none_in_more, none_work}
use Rattle.def_laws.proofs.LargerLaws.{larger_add_module, larger_given, larger_invoking, larger_replaced, larger_showing, larger_refl, larger_same, larger_taking, larger_trans, larger_with_module, own_next, own_root}
use Rattle.def_laws.proofs.OwnLaws.{own_both}
use Rattle.def_laws.proofs.PlainLaws.{ArePlain, own_walk, plain_both, plain_walk, explicit_by}

-- Footprints

-- what is queued in a module, where something of this depth is done, is of that module and ranks lower; no call that is to be recorded comes or goes, nor an expansion, nor anything that is deferred
pub record QueuesAt (scope : ModuleId) (depth : ℕ) (s t : State) : Type 0 where
  pub more : List MacroDirective
  pub macros : t.macros ≡ s.macros ++ more
  pub at : (d : MacroDirective) → Contains more d → (d.scope ≡ scope) × (macro_rank d < visit_rank depth)
  pub inner_calls : t.inner_calls ≡ s.inner_calls
  pub expansions : t.expansions ≡ s.expansions
  pub deferred : t.deferred ≡ s.deferred
  pub is_proc_macro : t.is_proc_macro ≡ s.is_proc_macro

-- what may be done in a module, by something of this depth, and leaves the table as it is: what globs were recorded with and what happened stay too, the map stays or grows,
-- imports may join of which nothing is recorded, and calls that wait, and what is to be done next is of the map, for no glob, and not less deep
pub record Footprint (s : State) (scope : ModuleId) (depth : ℕ) (effect : Effect) : Type 0 where
  pub content : effect.state.content ≡ s.content
  pub targets : effect.state.targets ≡ s.targets
  pub events : effect.events ≡ []
  pub larger : IsLarger s.map effect.state.map
  pub none_failed : NoneFailed s.map → NoneFailed effect.state.map
  pub imports : AddsNew s.imports effect.state.imports
  pub at : (d : ImportDirective) → Contains effect.state.imports d → Contains s.imports d ⊎ (d.import.scope ≡ scope)
  pub queued : QueuesAt scope depth s effect.state
  pub tasks : (targets : Targets) → length s.map.parents ≡ length s.map.modules → IsOwn effect.state.map scope → AreOwnTasks effect.state.map targets effect.tasks
  pub plain : ArePlain effect.tasks
  pub deep : (rank : ℕ) → visit_rank depth ≤ rank → AreVisitsBelow rank effect.tasks

-- what waits is the same
pub waits_alike : {s t : State} → t.macros ≡ s.macros → t.expansions ≡ s.expansions → t.deferred ≡ s.deferred → t.is_proc_macro ≡ s.is_proc_macro → t.inner_calls ≡ s.inner_calls → WaitsAlike s t
waits_alike macros expansions deferred is_proc_macro inner = record { macros = macros; inner_calls = inner; expansions = expansions; deferred = deferred; is_proc_macro = is_proc_macro }

-- nothing is queued
none_queued : (scope : ModuleId) (depth : ℕ) (s t : State) → WaitsAlike s t → QueuesAt scope depth s t
none_queued scope depth s t alike =
    record { more = []; macros = alike.macros ∙ sym (append-nil s.macros); at = λ d h. absurd (none_in d h); inner_calls = alike.inner_calls; expansions = alike.expansions; deferred = alike.deferred; is_proc_macro = alike.is_proc_macro }

known_footprint : (s : State) (scope : ModuleId) (depth : ℕ) (effect known : Effect) → effect ≡ known → Footprint s scope depth known → Footprint s scope depth effect
known_footprint s scope depth effect known same of_known = subst (λ x. Footprint s scope depth x) (sym same) of_known

-- nothing is done
pub still_footprint : (s : State) (scope : ModuleId) (depth : ℕ) → Footprint s scope depth (only s)
still_footprint s scope depth =
    record {
      content = refl;
      targets = refl;
      events = refl;
      larger = larger_refl s.map;
      none_failed = λ none. none;
      imports = none_added s.imports;
      at = λ d h. inl h;
      queued = none_queued scope depth s s (waits_alike refl refl refl refl refl);
      tasks = λ targets even own. tt;
      plain = tt;
      deep = λ rank low. tt;
    }

-- what changes nothing that a footprint speaks of
noted_still : (s t : State) (scope : ModuleId) (depth : ℕ) → t.content ≡ s.content → t.targets ≡ s.targets → t.map ≡ s.map → t.imports ≡ s.imports → WaitsAlike s t → Footprint s scope depth (only t)
noted_still s t scope depth content targets map imports alike =
    record {
      content = content;
      targets = targets;
      events = refl;
      larger = subst (λ m. IsLarger s.map m) (sym map) (larger_refl s.map);
      none_failed = λ none. subst NoneFailed (sym map) none;
      imports = subst (λ q. AddsNew s.imports q) (sym imports) (none_added s.imports);
      at = λ d h. inl (subst (λ q. Contains q d) imports h);
      queued = none_queued scope depth s t alike;
      tasks = λ targets even own. tt;
      plain = tt;
      deep = λ rank low. tt;
    }

-- a directory is stored
pub enter_footprint : (s : State) (at : ModuleId) (directory : Directory) → Footprint s at 0 (only (entered s at directory))
enter_footprint s at directory = noted_still s (entered s at directory) at 0 refl refl refl refl (waits_alike refl refl refl refl refl)

-- what an explicit entry is put with
put_own : (m : MapState) (scope : ModuleId) (targets : Targets) (origin : Origin) → IsExplicit origin → IsOwn m scope → IsOwn m scope × ((g : GlobId) → origin ≡ Some (Glob g) → IsRecorded targets g)
put_own m scope targets origin explicit own = (own, λ g by. absurd (explicit_by origin g explicit by))

module _ (s : State) (scope : ModuleId) (depth : ℕ) where
  -- tasks that lie as deep as this
  abbrev Lie : List Task → Type 0
  Lie tasks = (rank : ℕ) → visit_rank depth ≤ rank → AreVisitsBelow rank tasks

  -- the map may differ, calls may be queued, and diagnostics may join; these tasks follow
  queue_footprint : (t : State) (tasks : List Task) → t.content ≡ s.content → t.targets ≡ s.targets → t.imports ≡ s.imports → QueuesAt scope depth s t → IsLarger s.map t.map → (NoneFailed s.map → NoneFailed t.map)
      → ((targets : Targets) → IsOwn t.map scope → AreOwnTasks t.map targets tasks) → ArePlain tasks → Lie tasks → Footprint s scope depth (followed_by t tasks)
  queue_footprint t tasks content targets imports queued larger clean own plain deep =
      record {
        content = content;
        targets = targets;
        events = refl;
        larger = larger;
        none_failed = clean;
        imports = subst (λ q. AddsNew s.imports q) (sym imports) (none_added s.imports);
        at = λ d h. inl (subst (λ q. Contains q d) imports h);
        queued = queued;
        tasks = λ targets even own_scope. own targets own_scope;
        plain = plain;
        deep = deep;
      }

  -- the same, where no call is queued
  pub map_footprint : (t : State) (tasks : List Task) → t.content ≡ s.content → t.targets ≡ s.targets → t.imports ≡ s.imports → WaitsAlike s t → IsLarger s.map t.map → (NoneFailed s.map → NoneFailed t.map)
      → ((targets : Targets) → IsOwn t.map scope → AreOwnTasks t.map targets tasks) → ArePlain tasks → Lie tasks → Footprint s scope depth (followed_by t tasks)
  map_footprint t tasks content targets imports alike larger clean own plain deep =
      queue_footprint t tasks content targets imports (none_queued scope depth s t alike) larger clean own plain deep

  -- a module's data change, its failed names do not, and these tasks follow
  noted_footprint : (f : ModuleState → ModuleState) → ((d : ModuleState) → IsClean d → IsClean (f d)) → (tasks : List Task)
      → ((targets : Targets) → IsOwn (noted_in s scope f).map scope → AreOwnTasks (noted_in s scope f).map targets tasks) → ArePlain tasks → Lie tasks → Footprint s scope depth (followed_by (noted_in s scope f) tasks)
  noted_footprint f clean tasks own plain deep =
      map_footprint (noted_in s scope f) tasks refl refl refl (waits_alike refl refl refl refl refl) (larger_with_module s.map scope.index f) (λ none. none_failed-with_module s.map scope.index f clean none) own plain deep

  -- a module is added, in a state with the same map
  added_footprint : (r : State) (name : Name) (vis : Visibility) (o : ModuleOrigin) (contents : List Task) → r.content ≡ s.content → r.targets ≡ s.targets → r.imports ≡ s.imports → WaitsAlike s r → r.map ≡ s.map
      → ((targets : Targets) → IsOwn (add_module r scope name vis o).map scope → IsOwn (add_module r scope name vis o).map (next_module r) → AreOwnTasks (add_module r scope name vis o).map targets contents)
      → ArePlain contents → Lie contents
      → Footprint s scope depth (followed_by (add_module r scope name vis o) (put_declared scope name Types (def.Module (next_module r)) vis ∷ contents))
  added_footprint r name vis o contents content targets imports alike map own plain deep =
      record {
        content = content;
        targets = targets;
        events = refl;
        larger = subst (λ m. IsLarger m (add_module r scope name vis o).map) map (larger_add_module r scope name vis o);
        none_failed = λ none. none_failed-add_module r scope name vis o (subst NoneFailed (sym map) none);
        imports = subst (λ q. AddsNew s.imports q) (sym imports) (none_added s.imports);
        at = λ d h. inl (subst (λ q. Contains q d) imports h);
        queued = none_queued scope depth s (add_module r scope name vis o) (waits_alike alike.macros alike.expansions alike.deferred alike.is_proc_macro alike.inner_calls);
        tasks = λ targets even at. (put_own (add_module r scope name vis o).map scope targets None refl at, own targets at (own_next r scope name vis o (subst (λ (m : MapState). length m.parents ≡ length m.modules) (sym map) even)));
        plain = (refl, plain);
        deep = λ rank low. (tt, deep rank low);
      }

-- the textual macros of a module are brought into another
pub bring_footprint : (s : State) (from into : ModuleId) → Footprint s into 0 (only (noted_in s into (brought (textual_at s.map from.index))))
bring_footprint s from into = noted_footprint s into 0 (brought (textual_at s.map from.index)) (λ d h. h) [] (λ targets own. tt) tt (λ rank low. tt)

-- what is done behind the contents of a module
bring_own : (m : MapState) (targets : Targets) (brings : Bool) (from into : ModuleId) → IsOwn m into → AreOwnTasks m targets (bring_if brings from into)
bring_own m targets true from into own = ((own, tt), tt)
bring_own m targets false from into own = tt

bring_plain : (brings : Bool) (from into : ModuleId) → ArePlain (bring_if brings from into)
bring_plain true from into = (tt, tt)
bring_plain false from into = tt

bring_lies : (rank : ℕ) (brings : Bool) (from into : ModuleId) → AreVisitsBelow rank (bring_if brings from into)
bring_lies rank true from into = (tt, tt)
bring_lies rank false from into = tt

-- Rules

found_footprint : (oracle : Oracle) (s : State) (site : Site) (item : ItemNode) (name : Name) (vis : Visibility) (found : FoundFile) (cfg : Option CfgExpr) → Footprint s site.scope site.depth (outline_found oracle s site item name vis found cfg)
found_footprint oracle s site item name vis found (Some cfg) = noted_still s (reported s (diagnostic site item (UnconfiguredCode cfg))) site.scope site.depth refl refl refl refl (waits_alike refl refl refl refl refl)
found_footprint oracle s site item name vis found None =
    let o : ModuleOrigin = origin.File item.ast_id site.tree found.0 found.1 in
    let inner : Site = inner_site s site (file_tree found) found.2 in
    let first : List Task = walk oracle inner (top_items oracle (file_tree found)) in
    let brings : Bool = is_macro_use (attrs_of item.attrs) || is_macro_use (tree_attrs oracle (file_tree found)) in
    let last : List Task = bring_if brings (next_module s) site.scope in
    let m : MapState = (add_module s site.scope name vis o).map in
    added_footprint s site.scope site.depth s name vis o (first ++ last) refl refl refl (waits_alike refl refl refl refl refl) refl
    (λ targets at own. own_both m targets first last (own_walk oracle m targets inner (top_items oracle (file_tree found)) own) (bring_own m targets brings (next_module s) site.scope at))
    (plain_both first last (plain_walk oracle inner (top_items oracle (file_tree found))) (bring_plain brings (next_module s) site.scope))
    (λ rank low. lie_both rank first last (walk_lies oracle rank inner (top_items oracle (file_tree found)) low) (bring_lies rank brings (next_module s) site.scope))

outline_footprint : (oracle : Oracle) (s : State) (site : Site) (item : ItemNode) (name : Name) (vis : Visibility) (found : Result FoundFile (List (List ℕ))) → Footprint s site.scope site.depth (outline_item oracle s site item name vis found)
outline_footprint oracle s site item name vis (Ok found) = found_footprint oracle s site item name vis found (tree_cfg oracle (file_tree found))
outline_footprint oracle s site item name vis (Err files) =
    added_footprint s site.scope site.depth (reported s (diagnostic site item (UnresolvedModule files))) name vis _ [] refl refl refl (waits_alike refl refl refl refl refl) refl (λ targets at own. tt) tt (λ rank low. tt)

-- what waits where it stands, also in a state with another map
one_queued : (s : State) (site : Site) (item : ItemNode) (kind : MacroDirectiveKind) (m : MapState) → depth_rank (deeper site.depth) + kind_rank kind < visit_rank site.depth → QueuesAt site.scope site.depth s (queued (with_map s m) site item kind)
one_queued s site item kind m low = record {
  more = waiting site item kind ∷ [];
  macros = refl;
  at = λ d h. let is = only_in (waiting site item kind) d h in (ap (λ (x : MacroDirective). x.scope) is, let ranks = ap macro_rank is in omega (arith, ranks, low));
  inner_calls = refl;
  expansions = refl;
  deferred = refl;
  is_proc_macro = refl;
}

call_low : (site : Site) (written : WrittenCall) → depth_rank (deeper site.depth) + kind_rank (FnLike written) < visit_rank site.depth
call_low site written = let low = call_ranks site.depth in omega (arith, low)

-- an expansion is walked, or dropped
pub expanded_footprint : (oracle : Oracle) (s : State) (scope : ModuleId) (depth : ℕ) (t : State) (e : Expansion) → e.scope ≡ scope → t.content ≡ s.content → t.targets ≡ s.targets → t.imports ≡ s.imports → WaitsAlike s t
    → IsLarger s.map t.map → (NoneFailed s.map → NoneFailed t.map)
    → visit_rank e.depth ≤ visit_rank depth
    → Footprint s scope depth (expansion_effect oracle t e)
expanded_footprint oracle s scope depth t e here content targets imports alike larger clean lies = by (nat_lt (limit_of t.map.krate) e.depth) (nat_eq e.depth deepest) refl
  where
    inner : Site
    inner = expansion_site oracle t e

    ids : List ModItemId
    ids = top_items oracle (expansion_tree e.call)

    u : State
    u = with_replaced oracle t e

    by : (over last : Bool) → nat_eq e.depth deepest ≡ last → Footprint s scope depth (cond (over || last) (only t) (followed_by u (walk oracle inner ids)))
    by true last is = map_footprint s scope depth t [] content targets imports alike larger clean (λ targets own. tt) tt (λ rank low. tt)
    by false true is = map_footprint s scope depth t [] content targets imports alike larger clean (λ targets own. tt) tt (λ rank low. tt)
    by false false is =
        map_footprint s scope depth u (walk oracle inner ids) content targets imports (waits_alike alike.macros alike.expansions alike.deferred alike.is_proc_macro alike.inner_calls)
        (larger_trans s.map t.map u.map larger (larger_replaced oracle e.call e.replaces t.map)) (λ none. none_failed-replaced oracle e.call e.replaces t.map (clean none))
        (λ targets own. own_walk oracle u.map targets inner ids (subst (λ at. IsOwn u.map at) (sym here) own)) (plain_walk oracle inner ids)
        (λ rank low. walk_lies oracle rank inner ids (omega (arith, low, lies)))

module _ (oracle : Oracle) (s : State) (site : Site) where
  inline_own : (r : MapState) (brings : Bool) (children : List ModItemId) (directory : Option Directory) (targets : Targets) → IsOwn r site.scope → IsOwn r (next_module s)
      → AreOwnTasks r targets (inline_contents oracle s site brings children directory)
  inline_own r brings children None targets at own = tt
  inline_own r brings children (Some directory) targets at own =
      own_both r targets (walk oracle (inner_site s site site.tree directory) children) _ (own_walk oracle r targets (inner_site s site site.tree directory) children own) (bring_own r targets brings (next_module s) site.scope at)

  inline_plain : (brings : Bool) (children : List ModItemId) (directory : Option Directory) → ArePlain (inline_contents oracle s site brings children directory)
  inline_plain brings children None = tt
  inline_plain brings children (Some directory) =
      plain_both (walk oracle (inner_site s site site.tree directory) children) _ (plain_walk oracle (inner_site s site site.tree directory) children) (bring_plain brings (next_module s) site.scope)

  inline_lies : (brings : Bool) (children : List ModItemId) (directory : Option Directory) (rank : ℕ) → visit_rank site.depth ≤ rank → AreVisitsBelow rank (inline_contents oracle s site brings children directory)
  inline_lies brings children None rank low = tt
  inline_lies brings children (Some directory) rank low =
      lie_both rank (walk oracle (inner_site s site site.tree directory) children) _ (walk_lies oracle rank (inner_site s site site.tree directory) children low) (bring_lies rank brings (next_module s) site.scope)

  module _ (item : ItemNode) where
    contents_footprint : (name : Name) (vis : Visibility) (contents : ModContents) → Footprint s site.scope site.depth (module_item oracle s site item name vis contents)
    contents_footprint name vis (Inline children) =
        let o : ModuleOrigin = origin.Inline item.ast_id site.tree in
        let below : Option Directory = descend site.directory (name_text s.session name) (path_attr item.attrs) in
        let brings : Bool = is_macro_use (attrs_of item.attrs) in
        added_footprint s site.scope site.depth s name vis o (inline_contents oracle s site brings children below) refl refl refl (waits_alike refl refl refl refl refl) refl
        (λ targets at own. inline_own (add_module s site.scope name vis o).map brings children below targets at own) (inline_plain brings children below) (inline_lies brings children below)
    contents_footprint name vis Outline = outline_footprint oracle s site item name vis _

    ctor_own : (m : MapState) (targets : Targets) (name : Name) (d : Def) (vis : Visibility) (ctor : Option Visibility) → IsOwn m site.scope → AreOwnTasks m targets (ctor_task s site.scope name d vis ctor)
    ctor_own m targets name d vis None own = tt
    ctor_own m targets name d vis (Some ctor) own = (put_own m site.scope targets None refl own, tt)

    ctor_plain : (name : Name) (d : Def) (vis : Visibility) (ctor : Option Visibility) → ArePlain (ctor_task s site.scope name d vis ctor)
    ctor_plain name d vis None = tt
    ctor_plain name d vis (Some ctor) = (refl, tt)

    ctor_lies : (rank : ℕ) (name : Name) (d : Def) (vis : Visibility) (ctor : Option Visibility) → AreVisitsBelow rank (ctor_task s site.scope name d vis ctor)
    ctor_lies rank name d vis None = tt
    ctor_lies rank name d vis (Some ctor) = (tt, tt)

    new_at : (id : UseId) (raw : RawVisibility) (imports : List UseImport) (d : ImportDirective) → Contains (new_imports site item id raw imports) d → d.import.scope ≡ site.scope
    new_at id raw [] d h = absurd (none_in d h)
    new_at id raw (x ∷ xs) d h =
        elim (in_cases (record { import = record { scope = site.scope; position = position_of site item; use_id = id; written = x; vis = raw; is_prelude = is_prelude_import item.attrs }; recorded = no_namespaces }) (new_imports site item id raw xs) d h) [
          | inl here ↦ ap (λ (q : ImportDirective). q.import.scope) here
          | inr later ↦ new_at id raw xs d later
        ]

    -- an extern crate is put by its name, or its name is remembered
    crate_footprint : (id : ExternCrateId) (name : Option Name) (vis : Visibility) (taken : List (Name × MacroId)) (found : Option ModuleId) → Footprint s site.scope site.depth (crate_effect (noted_in s site.scope (with_extern_crate id)) site item id name vis taken found)
    crate_footprint id name vis taken None = unknown name
      where
        t : State
        t = noted_in s site.scope (with_extern_crate id)

        larger : IsLarger s.map t.map
        larger = larger_with_module s.map site.scope.index (with_extern_crate id)

        clean : NoneFailed s.map → NoneFailed t.map
        clean none = none_failed-with_module s.map site.scope.index (with_extern_crate id) (λ d h. h) none

        unknown : (n : Option Name) → Footprint s site.scope site.depth (crate_effect t site item id n vis taken None)
        unknown None = map_footprint s site.scope site.depth (reported (with_missing None t) (diagnostic site item UnresolvedExternCrate)) [] refl refl refl (waits_alike refl refl refl refl refl) larger clean (λ targets own. tt) tt (λ rank low. tt)
        unknown (Some n) = map_footprint s site.scope site.depth (reported (with_missing (Some n) t) (diagnostic site item UnresolvedExternCrate)) [] refl refl refl (waits_alike refl refl refl refl refl) larger clean (λ targets own. tt) tt (λ rank low. tt)
    crate_footprint id name vis taken (Some root) = named (is_crate_root site.scope)
      where
        t : State
        t = noted_in s site.scope (with_extern_crate id)

        put : List Task
        put = Put site.scope (crate_entry id name root vis) ∷ []

        f : Footprint s site.scope site.depth (followed_by t put)
        f = noted_footprint s site.scope site.depth (with_extern_crate id) (λ d h. h) put (λ targets own. (put_own t.map site.scope targets (Some (ByCrate id)) refl own, tt)) (refl, tt) (λ rank low. (tt, tt))

        named : (is : Bool) → Footprint s site.scope site.depth (followed_by (taking_macros is taken (naming_crate is name (record { root = root; by = Some id }) t)) put)
        named false = f
        named true =
            let u : State = taking_macros true taken (naming_crate true name (record { root = root; by = Some id }) t) in
            map_footprint s site.scope site.depth u put refl refl refl (waits_alike refl refl refl refl refl) (larger_trans s.map t.map u.map f.larger (larger_taking taken t.map)) (λ none. none_failed-taking taken t.map (f.none_failed none))
            (λ targets own. (put_own u.map site.scope targets (Some (ByCrate id)) refl own, tt)) (refl, tt) (λ rank low. (tt, tt))

    -- a macro that is no builtin after all is reported
    told_is : (expander : MacroExpander) → (told : List DefDiagnostic) × (unimplemented_reported s site item expander ≡ record s { diagnostics = told })
    told_is UnimplementedBuiltIn = (s.diagnostics ++ diagnostic site item UnimplementedBuiltinMacro ∷ [], refl)
    told_is (Declarative styles) = (s.diagnostics, refl)
    told_is (BuiltIn n) = (s.diagnostics, refl)
    told_is (BuiltInEager n) = (s.diagnostics, refl)
    told_is (BuiltInAttr attr) = (s.diagnostics, refl)
    told_is (BuiltInDerive n) = (s.diagnostics, refl)

    module _ (id : MacroId) where
      -- a macro by rules is defined, and declared in the root where it is exported
      export_footprint : (name : Name) (told : List DefDiagnostic) (exported : Bool) → Footprint s site.scope site.depth (export_effect (textual_state (record s { diagnostics = told }) site item name id) exported name id)
      export_footprint name told exported = by exported
        where
          t : State
          t = textual_state (record s { diagnostics = told }) site item name id

          noted : MapState
          noted = with_module s.map site.scope.index (with_textual name id)

          larger : IsLarger s.map t.map
          larger = larger_trans s.map noted t.map (larger_with_module s.map site.scope.index (with_textual name id)) (larger_same noted t.map refl refl refl refl)

          clean : NoneFailed s.map → NoneFailed t.map
          clean none = none_failed-with_module s.map site.scope.index (with_textual name id) (λ d h. h) none

          by : (is : Bool) → Footprint s site.scope site.depth (export_effect t is name id)
          by false = map_footprint s site.scope site.depth t [] refl refl refl (waits_alike refl refl refl refl refl) larger clean (λ targets own. tt) tt (λ rank low. tt)
          by true =
              let u : State = declare t (root t.map) (def.Macro id) in
              map_footprint s site.scope site.depth u (put_declared (root t.map) name Macros (def.Macro id) Public ∷ []) refl refl refl (waits_alike refl refl refl refl refl)
              (larger_trans s.map t.map u.map larger (larger_with_module t.map 0 (declared_in (def.Macro id)))) (λ none. none_failed-with_module t.map 0 (declared_in (def.Macro id)) (λ d h. h) (clean none))
              (λ targets own. (put_own u.map (root t.map) targets None refl (own_root u.map site.scope own), tt)) (refl, tt) (λ rank low. (tt, tt))

      -- a `macro` item is defined and declared
      item_footprint : (name : Name) (vis : Visibility) (expander : MacroExpander) (told : List DefDiagnostic)
          → Footprint s site.scope site.depth (declared_effect (item_state (record s { diagnostics = told }) site item expander id) site.scope name Macros (def.Macro id) vis)
      item_footprint name vis expander told =
          let in_block : Bool = is_some s.map.id.block in
          let read : Option NameAndHelpers = listed_helpers item expander in
          let shown : MapState = showing_helpers in_block id read s.map in
          let t : State = item_state (record s { diagnostics = told }) site item expander id in
          let u : State = declare t site.scope (def.Macro id) in
          map_footprint s site.scope site.depth u (put_declared site.scope name Macros (def.Macro id) vis ∷ []) refl refl refl (waits_alike refl refl refl refl refl)
          (larger_trans s.map t.map u.map (larger_trans s.map shown t.map (larger_showing in_block id read s.map) (larger_same shown t.map refl refl refl refl)) (larger_with_module t.map site.scope.index (declared_in (def.Macro id))))
          (λ none. none_failed-with_module t.map site.scope.index (declared_in (def.Macro id)) (λ d h. h) (none_failed-showing_helpers in_block id read s.map none))
          (λ targets own. (put_own u.map site.scope targets None refl own, tt)) (refl, tt) (λ rank low. (tt, tt))

    -- a call is answered
    told_footprint : (written : WrittenCall) (inner : List (InFile FileAstId × MacroCallId)) (value : Option MacroCallId) (error : Option ℕ) → Footprint s site.scope site.depth (told_effect oracle (with_invocations s site.scope inner) site item written value error)
    told_footprint written inner value error = by value error
      where
        t : State
        t = with_invocations s site.scope inner

        larger : IsLarger s.map t.map
        larger = larger_invoking site.scope.index inner s.map

        clean : NoneFailed s.map → NoneFailed t.map
        clean none = none_failed-invoking site.scope.index inner s.map none

        by : (value : Option MacroCallId) (error : Option ℕ) → Footprint s site.scope site.depth (told_effect oracle t site item written value error)
        by value (Some error) = queue_footprint s site.scope site.depth (queued t site item (FnLike written)) [] refl refl refl (one_queued s site item (FnLike written) t.map (call_low site written)) larger clean (λ targets own. tt) tt (λ rank low. tt)
        by None None = map_footprint s site.scope site.depth t [] refl refl refl (waits_alike refl refl refl refl refl) larger clean (λ targets own. tt) tt (λ rank low. tt)
        by (Some call) None =
            let made : List (InFile FileAstId × MacroCallId) = (position_of site item, call) ∷ [] in
            let u : State = with_invocations t site.scope made in
            expanded_footprint oracle s site.scope site.depth u (expansion_at site call) refl refl refl refl (waits_alike refl refl refl refl refl)
            (larger_trans s.map t.map u.map larger (larger_invoking site.scope.index made t.map)) (λ none. none_failed-invoking site.scope.index made t.map (clean none))
            (deeper_ranks site.depth)

    answered_footprint : (written : WrittenCall) (answer : Result CallAnswer UnresolvedMacro) → Footprint s site.scope site.depth (answered_effect oracle s site item written answer)
    answered_footprint written (Ok answer) = told_footprint written answer.inner answer.value answer.err
    answered_footprint written (Err e) = queue_footprint s site.scope site.depth (queued s site item (FnLike written)) [] refl refl refl (one_queued s site item (FnLike written) s.map (call_low site written)) (larger_refl s.map) (λ none. none) (λ targets own. tt) tt (λ rank low. tt)

    -- a function exports a procedural macro
    exported_footprint : (name : Name) (vis : Visibility) (function : FunctionId) (decl : MacroDecl) (id : ProcMacroId) → Footprint s site.scope site.depth (exported_effect s site item name vis function decl id)
    exported_footprint name vis function decl id =
        let of_function : ModuleState → ModuleState = declared_in (def.Function function) in
        let of_macro : ModuleState → ModuleState = declared_in (def.Macro (macro_of.ProcMacro id)) in
        let first : MapState = with_module s.map site.scope.index of_function in
        let led : MapState = paired_at first site item function id decl.kind in
        let u : State = exporting (declare s site.scope (def.Function function)) site item function id decl.kind in
        map_footprint s site.scope site.depth u (exported_effect s site item name vis function decl id).tasks refl refl refl (waits_alike refl refl refl refl refl)
        (larger_trans s.map first u.map (larger_with_module s.map site.scope.index of_function) (larger_trans first led u.map (larger_same first led refl refl refl refl) (larger_with_module led 0 of_macro)))
        (λ none. none_failed-with_module led 0 of_macro (λ d h. h) (none_failed-with_module s.map site.scope.index of_function (λ d h. h) none))
        (λ targets own. (put_own u.map site.scope targets None refl own, (put_own u.map (root u.map) targets None refl (own_root u.map site.scope own), ((own, tt), tt)))) (refl, (refl, (tt, tt))) (λ rank low. (tt, (tt, (tt, tt))))

    -- it is declared, at least
    function_footprint : (name : Name) (vis : Visibility) (function : FunctionId) (exported : Option MacroDecl) (effect : Effect) → DeclaresFunction oracle s site item name vis function exported effect → Footprint s site.scope site.depth effect
    function_footprint name vis function None effect does =
        let f : ModuleState → ModuleState = declared_in (def.Function function) in
        known_footprint s site.scope site.depth effect _ does
        (noted_footprint s site.scope site.depth f (λ e h. h) (put_declared site.scope name Values (def.Function function) vis ∷ []) (λ targets own. (put_own (noted_in s site.scope f).map site.scope targets None refl own, tt)) (refl, tt) (λ rank low. (tt, tt)))
    function_footprint name vis function (Some decl) effect does = known_footprint s site.scope site.depth effect _ does.2 (exported_footprint name vis function decl does.0)

    -- what each rule does
    follows_footprint : (rule : Rule) (effect : Effect) → Follows oracle s site item rule effect → Footprint s site.scope site.depth effect
    follows_footprint (declares kind d ns name raw) effect does =
        let f : ModuleState → ModuleState = declared_in (d does.0) in
        known_footprint s site.scope site.depth effect _ does.2
        (noted_footprint s site.scope site.depth f (λ e h. h) (put_declared site.scope name ns (d does.0) (written_vis oracle s site.scope raw) ∷ []) (λ targets own. (put_own (noted_in s site.scope f).map site.scope targets None refl own, tt)) (refl, tt) (λ rank low. (tt, tt)))
    follows_footprint (declares_struct name raw ctor) effect does =
        let d : Def = def.Struct (record { 0 = does.0 }) in
        let vis : Visibility = written_vis oracle s site.scope raw in
        let made : Option Visibility = ctor_vis oracle s site.scope ctor in
        let m : MapState = (noted_in s site.scope (declared_in d)).map in
        known_footprint s site.scope site.depth effect _ does.2
        (noted_footprint s site.scope site.depth (declared_in d) (λ e h. h) (put_declared site.scope name Types d vis ∷ ctor_task s site.scope name d vis made)
        (λ targets own. (put_own m site.scope targets None refl own, ctor_own m targets name d vis made own)) (refl, ctor_plain name d vis made) (λ rank low. (tt, ctor_lies rank name d vis made)))
    follows_footprint (declares_function name raw) effect does = function_footprint name _ (record { 0 = does.0 }) (exported_macro s site item name) effect does.2
    follows_footprint (opens_module name raw contents) effect does = known_footprint s site.scope site.depth effect _ does (contents_footprint name _ contents)
    follows_footprint (opens_block children) effect does =
        let inner : Site = record site { container = contained.ExternBlock (record { 0 = does.0 }) } in
        let f : ModuleState → ModuleState = with_extern_block (record { 0 = does.0 }) in
        known_footprint s site.scope site.depth effect _ does.2
        (noted_footprint s site.scope site.depth f (λ d h. h) (walk oracle inner children) (λ targets own. own_walk oracle (noted_in s site.scope f).map targets inner children own) (plain_walk oracle inner children)
        (λ rank low. walk_lies oracle rank inner children low))
    follows_footprint (queues raw imports) effect does =
        let id : UseId = record { 0 = does.0 } in
        let f = still_footprint s site.scope site.depth in
        known_footprint s site.scope site.depth effect _ does.2
        (record {
          content = f.content;
          targets = f.targets;
          events = f.events;
          larger = f.larger;
          none_failed = f.none_failed;
          imports = added_new s.imports site item id raw imports;
          at = λ p h. elim (Contains-append_cases s.imports (new_imports site item id raw imports) p h) [ inl old ↦ inl old | inr new ↦ inr (new_at id raw imports p new) ];
          queued = none_queued site.scope site.depth s (record s { imports = s.imports ++ new_imports site item id raw imports }) (waits_alike refl refl refl refl refl);
          tasks = f.tasks;
          plain = f.plain;
          deep = f.deep;
        })
    follows_footprint (binds_crate name raw alias) effect does = known_footprint s site.scope site.depth effect _ does.2
        (crate_footprint (record { 0 = does.0 }) (crate_name name alias) (written_vis oracle s site.scope raw) (macros_brought oracle s item name (named_crate s name)) (named_crate s name))
    follows_footprint (notes_impl of_trait) effect does =
        known_footprint s site.scope site.depth effect _ does.2 (noted_footprint s site.scope site.depth (with_impl (record { 0 = does.0 }) of_trait) (λ d h. h) [] (λ targets own. tt) tt (λ rank low. tt))
    follows_footprint notes_const effect does =
        known_footprint s site.scope site.depth effect _ does.2 (noted_footprint s site.scope site.depth (with_unnamed_const (record { 0 = does.0 })) (λ d h. h) [] (λ targets own. tt) tt (λ rank low. tt))
    follows_footprint (defines_rules name) effect does =
        let defined : MacroId = macro_of.MacroRules (record { 0 = does.0 }) in
        let exported : Bool = has_attr macro_export_name (attrs_of item.attrs) in
        let told = told_is (rules_expander oracle s.map.id.krate site item does.1) in
        known_footprint s site.scope site.depth effect _ does.4
        (subst (λ t. Footprint s site.scope site.depth (export_effect (textual_state t site item name defined) exported name defined)) (sym told.1) (export_footprint defined name told.0 exported))
    follows_footprint (defines_macro name raw) effect does =
        let defined : MacroId = macro_of.Macro2 (record { 0 = does.0 }) in
        let expander : MacroExpander = item_expander oracle s.map.id.krate site item name in
        let vis : Visibility = written_vis oracle s site.scope raw in
        let told = told_is expander in
        known_footprint s site.scope site.depth effect _ does.2
        (subst (λ t. Footprint s site.scope site.depth (declared_effect (item_state t site item expander defined) site.scope name Macros (def.Macro defined) vis)) (sym told.1) (item_footprint defined name vis expander told.0))
    follows_footprint (calls_macro written) effect does = known_footprint s site.scope site.depth effect _ does (answered_footprint written _)

kind_footprint : (oracle : Oracle) (s : State) (site : Site) (item : ItemNode) (effect : Effect) → HandlesByKind oracle s site item effect → Footprint s site.scope site.depth effect
kind_footprint oracle s site item effect does =
    let f = follows_footprint oracle (record s { session = does.0 }) site item (rule_of item.kind) effect does.2 in
    record {
      content = f.content;
      targets = f.targets;
      events = f.events;
      larger = f.larger;
      none_failed = f.none_failed;
      imports = f.imports;
      at = f.at;
      queued = record { more = f.queued.more; macros = f.queued.macros; at = f.queued.at; inner_calls = f.queued.inner_calls; expansions = f.queued.expansions; deferred = f.queued.deferred; is_proc_macro = f.queued.is_proc_macro };
      tasks = f.tasks;
      plain = f.plain;
      deep = f.deep;
    }

-- Visits

-- the state in which these are deferred
abbrev pub deferred_with : State → Deferrals → State
deferred_with s deferred = record s { deferred = deferred }

-- what a visit does: of what is deferred some may go, and then something is done where the item stands
pub record VisitFootprint (s : State) (site : Site) (effect : Effect) : Type 0 where
  pub deferred : Deferrals
  pub fewer : (at : ModuleId) → DefersIn deferred at → DefersIn s.deferred at
  pub lighter : deferred_work deferred ≤ deferred_work s.deferred
  pub foot : Footprint (deferred_with s deferred) site.scope site.depth effect

-- none goes
foot_visit : (s : State) (site : Site) (effect : Effect) → Footprint s site.scope site.depth effect → VisitFootprint s site effect
foot_visit s site effect foot = record { deferred = s.deferred; fewer = λ at h. h; lighter = omega arith; foot = foot }

-- the derives that are deferred for an item change the map, and go
record GivenFootprint (s t : State) : Type 0 where
  is : t ≡ with_map (deferred_with s t.deferred) t.map
  fewer : (at : ModuleId) → DefersIn t.deferred at → DefersIn s.deferred at
  lighter : deferred_work t.deferred ≤ deferred_work s.deferred
  larger : IsLarger s.map t.map
  clean : NoneFailed s.map → NoneFailed t.map

given_none : (s t : State) → t ≡ s → GivenFootprint s t
given_none s t is = subst (GivenFootprint s) (sym is) (record { is = refl; fewer = λ at h. h; lighter = omega arith; larger = larger_refl s.map; clean = λ none. none })

given_footprint : (oracle : Oracle) (s : State) (site : Site) (item : ItemNode) (may : Bool) (derives : List DeferredDerive) → derives ≡ deferred_at s (position_of site item) → (t : State) → GiveImpls oracle s site item may derives t → GivenFootprint s t
given_footprint oracle s site item false derives is t gives = given_none s t gives
given_footprint oracle s site item true [] is t gives =
    let work = none_work s (position_of site item) in
    subst (GivenFootprint s) (sym gives) (record { is = refl; fewer = none_in_more s (position_of site item); lighter = omega (arith, work); larger = larger_refl s.map; clean = λ none. none })
given_footprint oracle s site item true (derive ∷ derives) is t (adt, of_item, m, given, same) =
    let position : InFile FileAstId = position_of site item in
    let work = none_work s position in
    subst (GivenFootprint s) (sym same) (record {
      is = refl;
      fewer = none_in_more s position;
      lighter = omega (arith, work);
      larger = larger_given oracle s.session site.scope position adt (derive ∷ derives) s.map m given;
      clean = none_failed-given oracle s.session site.scope position adt (derive ∷ derives) s.map m given;
    })

handled_footprint : (oracle : Oracle) (s : State) (site : Site) (item : ItemNode) (effect : Effect) → HandlesInSession oracle s site item effect → VisitFootprint s site effect
handled_footprint oracle s site item effect (session, adds, t, gives, handles) =
    let in_session : State = record s { session = session } in
    let given : GivenFootprint in_session t = given_footprint oracle in_session site item (derives_kind item.kind) (deferred_at in_session (position_of site item)) refl t gives in
    let f : Footprint t site.scope site.depth effect = kind_footprint oracle t site item effect handles in
    let back : t ≡ with_map (deferred_with in_session t.deferred) t.map = given.is in
    record {
      deferred = t.deferred;
      fewer = given.fewer;
      lighter = given.lighter;
      foot = record {
        content = f.content ∙ ap (λ (x : State). x.content) back;
        targets = f.targets ∙ ap (λ (x : State). x.targets) back;
        events = f.events;
        larger = larger_trans s.map t.map effect.state.map given.larger f.larger;
        none_failed = λ none. f.none_failed (given.clean none);
        imports = subst (λ q. AddsNew q effect.state.imports) (ap (λ (x : State). x.imports) back) f.imports;
        at = λ d h. elim (f.at d h) [ inl old ↦ inl (subst (λ q. Contains q d) (ap (λ (x : State). x.imports) back) old) | inr new ↦ inr new ];
        queued = record {
          more = f.queued.more;
          macros = f.queued.macros ∙ ap (λ ds. ds ++ f.queued.more) (ap (λ (x : State). x.macros) back);
          at = f.queued.at;
          inner_calls = f.queued.inner_calls ∙ ap (λ (x : State). x.inner_calls) back;
          expansions = f.queued.expansions ∙ ap (λ (x : State). x.expansions) back;
          deferred = f.queued.deferred;
          is_proc_macro = f.queued.is_proc_macro ∙ ap (λ (x : State). x.is_proc_macro) back;
        };
        tasks = λ targets even own. f.tasks targets (given.larger.even even) own;
        plain = f.plain;
        deep = f.deep;
      };
    }

-- an item waits for an attribute only above the greatest depth
awaited_high : (oracle : Oracle) (s : State) (site : Site) (id : ModItemId) (item : ItemNode) (attr : AttrId × Attr) → awaited_attr oracle s site id item ≡ Some attr → site.depth < deepest
awaited_high oracle s site id item attr is = by (nat_lt site.depth deepest) refl is
  where
    by : (high : Bool) → nat_lt site.depth deepest ≡ high → cond high (first_unknown oracle s.map.krate.tools (iter_after (s.skipped site.tree.file id) (attrs_of item.attrs))) None ≡ Some attr → site.depth < deepest
    by true high found = ltb-true site.depth deepest high
    by false high found = absurd (cc found)

-- an item waits where it stands
waits_footprint : (s : State) (site : Site) (id : ModItemId) (item : ItemNode) (attr : AttrId × Attr) → site.depth < deepest → Footprint s site.scope site.depth (only (queued s site item (awaiting site id attr)))
waits_footprint s site id item attr high =
    queue_footprint s site.scope site.depth (queued s site item (awaiting site id attr)) [] refl refl refl (one_queued s site item (awaiting site id attr) s.map (attr_ranks site.depth high)) (larger_refl s.map) (λ none. none) (λ targets own. tt) tt (λ rank low. tt)

enabled_footprint : (oracle : Oracle) (s : State) (site : Site) (id : ModItemId) (item : ItemNode) (awaited : Option (AttrId × Attr)) → awaited_attr oracle s site id item ≡ awaited → (effect : Effect) → VisitsEnabled oracle s site id item awaited effect
    → VisitFootprint s site effect
enabled_footprint oracle s site id item (Some attr) is effect does = foot_visit s site effect (known_footprint s site.scope site.depth effect _ does (waits_footprint s site id item attr (awaited_high oracle s site id item attr is)))
enabled_footprint oracle s site id item None is effect does = handled_footprint oracle s site item effect does

node_footprint : (oracle : Oracle) (s : State) (site : Site) (id : ModItemId) (item : ItemNode) (cfg : Option CfgExpr) (effect : Effect) → VisitsNode oracle s site id item cfg effect → VisitFootprint s site effect
node_footprint oracle s site id item (Some cfg) effect does =
    foot_visit s site effect (known_footprint s site.scope site.depth effect _ does (noted_still s (reported s (diagnostic site item (UnconfiguredCode cfg))) site.scope site.depth refl refl refl refl (waits_alike refl refl refl refl refl)))
node_footprint oracle s site id item None effect does = enabled_footprint oracle s site id item (awaited_attr oracle s site id item) refl effect does

at_footprint : (oracle : Oracle) (s : State) (site : Site) (id : ModItemId) (item : Option ItemNode) (effect : Effect) → VisitsAt oracle s site id item effect → VisitFootprint s site effect
at_footprint oracle s site id None effect does = foot_visit s site effect (known_footprint s site.scope site.depth effect _ does (still_footprint s site.scope site.depth))
at_footprint oracle s site id (Some item) effect does = node_footprint oracle s site id item (disabled_by item.attrs) effect does

-- what a visit does
pub visits_footprint : (oracle : Oracle) (s : State) (site : Site) (id : ModItemId) (effect : Effect) → Visits oracle s site id effect → VisitFootprint s site effect
visits_footprint oracle s site id effect does = at_footprint oracle s site id (node_at oracle site.tree id) effect does
