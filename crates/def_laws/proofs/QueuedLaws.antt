-- What handling an item queues: calls alone, and no derive that is to be tried.
use Rattle.std.proofs.Common.{◌≡◌, ◌∙◌, append-nil, nat_eq, nat_lt, ℕ, Bool, true, false, cond, ◌||◌, List, [], ◌∷◌, ◌++◌, Option, Some, None, Result, Ok, Err, Contains, refl, sym, ap, subst}
use Rattle.std.specs.List.{flat_map}
use Rattle.tree_ids.specs.declared.ids.CfgExpr.{CfgExpr}
use Rattle.tree_ids.specs.declared.ids.MacroCallId.{MacroCallId}
use Rattle.tree_ids.specs.declared.ids.ModItemId.{ModItemId}
use Rattle.item_tree.specs.declared.items.ItemNode.{ItemNode}
use Rattle.item_tree.specs.declared.items.ImportKind.{ImportKind}
use Rattle.item_tree.specs.declared.items.ImportKind.TheVariants as kind
use Rattle.item_tree.specs.declared.items.ModContents.{ModContents}
use Rattle.item_tree.specs.declared.items.ModContents.TheVariants.{Inline, Outline}
use Rattle.tree_ids.specs.declared.name.Name.{Name}
use Rattle.item_tree.specs.Attrs.{attrs_of, has_attr, path_attr}
use Rattle.item_tree.specs.KnownNames.{macro_export_name}
use Rattle.def_ids.specs.declared.ids.Def.{Def}
use Rattle.def_ids.specs.declared.ids.Def.TheVariants as def
use Rattle.def_ids.specs.declared.ids.ExternCrateId.{ExternCrateId}
use Rattle.def_ids.specs.declared.ids.ItemContainerId.TheVariants as contained
use Rattle.def_ids.specs.declared.ids.MacroId.{MacroId}
use Rattle.def_ids.specs.declared.ids.MacroId.TheVariants as macro_of
use Rattle.def_ids.specs.declared.ids.ModuleId.{ModuleId}
use Rattle.def_bindings.specs.declared.bindings.EdgeTo.{EdgeTo}
use Rattle.def_bindings.specs.declared.bindings.Entry.{Entry}
use Rattle.def_bindings.specs.declared.visibility.Visibility.{Visibility}
use Rattle.def_bindings.specs.Visibility.{order_over}
use Rattle.def_ids.specs.declared.expander.MacroExpander.{MacroExpander}
use Rattle.def_ids.specs.declared.expander.MacroExpander.TheVariants.{Declarative, BuiltIn, BuiltInEager, BuiltInAttr, BuiltInDerive, UnimplementedBuiltIn}
use Rattle.def_modules.specs.Maps.{limit_of}
use Rattle.def_oracle.specs.declared.source_database.CallAnswer.{CallAnswer}
use Rattle.def_oracle.specs.declared.source_database.UnresolvedMacro.{UnresolvedMacro}
use Rattle.def_oracle.specs.Oracle.{Oracle}
use Rattle.def_readings.specs.Directories.{Directory, FoundFile, descend}
use Rattle.def_paths.specs.declared.path_result.ResolvePathResult.{ResolvePathResult}
use Rattle.def_paths.specs.Answers.{variants_of}
use Rattle.def_paths.specs.Paths.{for_import, map_of, question}
use Rattle.def_sources.specs.Sources.{World}
use Rattle.def_globs.proofs.ListLaws.{none_in, only_in}
use Rattle.def_rules.specs.Calls.{answered_effect, deepest, expansion_at, expansion_effect, expansion_site, expansion_tree, queued, told_effect, waiting, with_invocations, with_replaced}
use Rattle.def_rules.specs.Crates.{tree_attrs}
use Rattle.def_ids.specs.declared.ids.FunctionId.{FunctionId}
use Rattle.def_readings.specs.ProcMacros.{MacroDecl}
use Rattle.def_rules.specs.ProcMacros.{DeclaresFunction, exported_macro}
use Rattle.def_rules.specs.ExternCrates.{crate_effect, crate_entry, crate_name, named_crate, naming_crate}
use Rattle.def_rules.specs.Globs.{module_entries, variant_entries}
use Rattle.def_rules.specs.Items.{ctor_task, ctor_vis, is_crate_root, position_of, top_items, tree_cfg, visits, walk, written_vis}
use Rattle.def_rules.specs.Macros.{export_effect, item_effect, item_expander, macros_brought, rules_effect, rules_expander, taking_macros}
use Rattle.def_rules.specs.Modules.{bring_if, file_tree, inline_contents, inner_site, is_macro_use, module_item, name_text, next_module, outline_found, outline_item}
use Rattle.def_rules.specs.Recording.{edge_tasks, glob_def, glob_edge, glob_tasks, is_own_crate, record_tasks}
use Rattle.def_rules.specs.Imports.{import_vis}
use Rattle.def_rules.specs.Rules.{HandlesByKind, Rule, Follows, rule_of, declares, declares_function, declares_struct, opens_module, opens_block, queues, binds_crate, notes_impl, notes_const, defines_rules, defines_macro, calls_macro}
use Rattle.def_rules.specs.Settled.{IsNoAttribute}
use Rattle.def_rules.specs.State.{State, Effect, followed_by, only, Import, Site, Put, Task, TryDerive, put_each, world}
use Rattle.def_rules.specs.Waiting.{Expansion, FnLike, MacroDirective, WrittenCall}

-- Tasks that try no derive

-- a task tries no derive
abbrev pub IsNoTry : Task → Type 0
IsNoTry (TryDerive directive written) = ⊥
IsNoTry _ = Unit {0}

-- nor does any of these
abbrev pub AreNoTries : List Task → Type 0
AreNoTries [] = Unit {0}
AreNoTries (task ∷ tasks) = IsNoTry task × AreNoTries tasks

-- nor those of two lists
pub no_tries_both : (xs ys : List Task) → AreNoTries xs → AreNoTries ys → AreNoTries (xs ++ ys)
no_tries_both [] ys h k = k
no_tries_both (task ∷ xs) ys h k = (h.0, no_tries_both xs ys h.1 k)

-- visits try none
visits_no_tries : (site : Site) (ids : List ModItemId) → AreNoTries (visits site ids)
visits_no_tries site [] = tt
visits_no_tries site (id ∷ ids) = (tt, visits_no_tries site ids)

-- a walk tries none
pub walk_no_tries : (oracle : Oracle) (site : Site) (ids : List ModItemId) → AreNoTries (walk oracle site ids)
walk_no_tries oracle site ids = (tt, visits_no_tries site _)

-- nor do the tasks behind the contents of a module
bring_no_tries : (brings : Bool) (from into : ModuleId) → AreNoTries (bring_if brings from into)
bring_no_tries true from into = (tt, tt)
bring_no_tries false from into = tt

-- Recorded imports

-- puts try none
puts_no_tries : (at : ModuleId) (list : List (Entry Visibility)) → AreNoTries (put_each at list)
puts_no_tries at [] = tt
puts_no_tries at (entry ∷ list) = (tt, puts_no_tries at list)

-- nor does an edge
edge_no_tries : (own : Bool) (source : ModuleId) (glob : EdgeTo Visibility) → AreNoTries (edge_tasks own source glob)
edge_no_tries true source glob = (tt, tt)
edge_no_tries false source glob = tt

-- nor what a glob leads to
glob_no_tries : (w : World) (glob : EdgeTo Visibility) (given : Option Def) → AreNoTries (glob_tasks w glob given)
glob_no_tries w glob None = tt
glob_no_tries w glob (Some (def.Module source)) =
    let own : Bool = is_own_crate w.map.facts.id source in
    let list : List (Entry Visibility) = module_entries (order_over w.map.facts.chain) glob own (map_of w source.map) source in
    no_tries_both (put_each glob.importer list) (edge_tasks own source glob) (puts_no_tries glob.importer list) (edge_no_tries own source glob)
glob_no_tries w glob (Some (def.Enum id)) = puts_no_tries glob.importer (flat_map (variant_entries (order_over w.map.facts.chain) glob) (variants_of (question w for_import) id.0))
glob_no_tries w glob (Some (def.Function x)) = tt
glob_no_tries w glob (Some (def.Struct x)) = tt
glob_no_tries w glob (Some (def.Union x)) = tt
glob_no_tries w glob (Some (def.Variant x)) = tt
glob_no_tries w glob (Some (def.Const x)) = tt
glob_no_tries w glob (Some (def.Static x)) = tt
glob_no_tries w glob (Some (def.Trait x)) = tt
glob_no_tries w glob (Some (def.TypeAlias x)) = tt
glob_no_tries w glob (Some (def.Builtin x)) = tt
glob_no_tries w glob (Some (def.Macro x)) = tt

-- a recorded import leads to none
pub record_no_tries : (oracle : Oracle) (s : State) (p : Import) (answer : ResolvePathResult) (k : ImportKind) → AreNoTries (record_tasks oracle s p answer k)
record_no_tries oracle s p answer kind.Plain = puts_no_tries p.scope _
record_no_tries oracle s p answer kind.TypeOnly = puts_no_tries p.scope _
record_no_tries oracle s p answer kind.Glob = glob_no_tries (world oracle s) (glob_edge p (import_vis oracle s p)) (glob_def p answer)

-- What joins those that wait

-- what joins waits for no attribute, what is deferred stays, and no derive is to be tried
pub record JoinsCalls (s : State) (effect : Effect) : Type 0 where
  pub more : List MacroDirective
  pub macros : effect.state.macros ≡ s.macros ++ more
  pub none : (d : MacroDirective) → Contains more d → IsNoAttribute d.kind
  pub deferred : effect.state.deferred ≡ s.deferred
  pub tasks : AreNoTries effect.tasks

-- what is known of an effect
known_joins : (s : State) (effect known : Effect) → effect ≡ known → JoinsCalls s known → JoinsCalls s effect
known_joins s effect known same joins = subst (JoinsCalls s) (sym same) joins

-- nothing joins
none_joins : (s : State) (effect : Effect) → effect.state.macros ≡ s.macros → effect.state.deferred ≡ s.deferred → AreNoTries effect.tasks → JoinsCalls s effect
none_joins s effect macros deferred tasks = record { more = []; macros = macros ∙ sym (append-nil s.macros); none = λ d h. absurd (none_in d h); deferred = deferred; tasks = tasks }

-- a call joins, in a state in which the same waits
call_joins : (s t : State) (site : Site) (item : ItemNode) (written : WrittenCall) → t.macros ≡ s.macros → t.deferred ≡ s.deferred → JoinsCalls s (only (queued t site item (FnLike written)))
call_joins s t site item written macros deferred = record {
  more = waiting site item (FnLike written) ∷ [];
  macros = ap (λ ds. ds ++ waiting site item (FnLike written) ∷ []) macros;
  none = λ d h. subst (λ (x : MacroDirective). IsNoAttribute x.kind) (sym (only_in (waiting site item (FnLike written)) d h)) tt;
  deferred = deferred;
  tasks = tt;
}

-- an expansion that is walked or dropped lets nothing join
pub expansion_joins : (oracle : Oracle) (s t : State) (e : Expansion) → t.macros ≡ s.macros → t.deferred ≡ s.deferred → JoinsCalls s (expansion_effect oracle t e)
expansion_joins oracle s t e macros deferred = by (nat_lt (limit_of t.map.krate) e.depth || nat_eq e.depth deepest)
  where
    inner : Site
    inner = expansion_site oracle t e

    ids : List ModItemId
    ids = top_items oracle (expansion_tree e.call)

    by : (deep : Bool) → JoinsCalls s (cond deep (only t) (followed_by (with_replaced oracle t e) (walk oracle inner ids)))
    by true = none_joins s (only t) macros deferred tt
    by false = none_joins s (followed_by (with_replaced oracle t e) (walk oracle inner ids)) macros deferred (walk_no_tries oracle inner ids)

module _ (oracle : Oracle) (s : State) (site : Site) (item : ItemNode) where
  -- the contents of a module
  inline_no_tries : (brings : Bool) (children : List ModItemId) (directory : Option Directory) → AreNoTries (inline_contents oracle s site brings children directory)
  inline_no_tries brings children None = tt
  inline_no_tries brings children (Some directory) =
      let inner : Site = inner_site s site site.tree directory in
      no_tries_both (walk oracle inner children) (bring_if brings (next_module s) site.scope) (walk_no_tries oracle inner children) (bring_no_tries brings (next_module s) site.scope)

  -- a module in a file that is found
  found_joins : (name : Name) (vis : Visibility) (found : FoundFile) (cfg : Option CfgExpr) → JoinsCalls s (outline_found oracle s site item name vis found cfg)
  found_joins name vis found (Some cfg) = none_joins s _ refl refl tt
  found_joins name vis found None =
      let inner : Site = inner_site s site (file_tree found) found.2 in
      let ids : List ModItemId = top_items oracle (file_tree found) in
      let brings : Bool = is_macro_use (attrs_of item.attrs) || is_macro_use (tree_attrs oracle (file_tree found)) in
      none_joins s _ refl refl (tt, no_tries_both (walk oracle inner ids) (bring_if brings (next_module s) site.scope) (walk_no_tries oracle inner ids) (bring_no_tries brings (next_module s) site.scope))

  -- a module in a file
  outline_joins : (name : Name) (vis : Visibility) (found : Result FoundFile (List (List ℕ))) → JoinsCalls s (outline_item oracle s site item name vis found)
  outline_joins name vis (Ok found) = found_joins name vis found (tree_cfg oracle (file_tree found))
  outline_joins name vis (Err files) = none_joins s _ refl refl (tt, tt)

  -- a module
  module_joins : (name : Name) (vis : Visibility) (contents : ModContents) → JoinsCalls s (module_item oracle s site item name vis contents)
  module_joins name vis (Inline children) = none_joins s _ refl refl (tt, inline_no_tries (is_macro_use (attrs_of item.attrs)) children (descend site.directory (name_text s.session name) (path_attr item.attrs)))
  module_joins name vis Outline = outline_joins name vis _

  -- the constructor of a struct
  ctor_no_tries : (name : Name) (d : Def) (vis : Visibility) (ctor : Option Visibility) → AreNoTries (ctor_task s site.scope name d vis ctor)
  ctor_no_tries name d vis None = tt
  ctor_no_tries name d vis (Some ctor) = (tt, tt)

  -- an extern crate, in a state in which the same waits
  crate_joins : (t : State) → t.macros ≡ s.macros → t.deferred ≡ s.deferred → (id : ExternCrateId) (name : Option Name) (vis : Visibility) (taken : List (Name × MacroId)) (found : Option ModuleId)
      → JoinsCalls s (crate_effect t site item id name vis taken found)
  crate_joins t macros deferred id None vis taken None = none_joins s _ macros deferred tt
  crate_joins t macros deferred id (Some name) vis taken None = none_joins s _ macros deferred tt
  crate_joins t macros deferred id name vis taken (Some root) = by (is_crate_root site.scope)
    where
      by : (is : Bool) → JoinsCalls s (followed_by (taking_macros is taken (naming_crate is name (record { root = root; by = Some id }) t)) (Put site.scope (crate_entry id name root vis) ∷ []))
      by true = none_joins s _ macros deferred (tt, tt)
      by false = none_joins s _ macros deferred (tt, tt)

  -- a macro by rules, by whether it is exported, in a state in which the same waits
  export_joins : (t : State) → t.macros ≡ s.macros → t.deferred ≡ s.deferred → (exported : Bool) (name : Name) (id : MacroId) → JoinsCalls s (export_effect t exported name id)
  export_joins t macros deferred true name id = none_joins s _ macros deferred (tt, tt)
  export_joins t macros deferred false name id = none_joins s _ macros deferred tt

  -- so it is with each expander
  rules_joins : (name : Name) (expander : MacroExpander) (id : MacroId) → JoinsCalls s (rules_effect s site item name expander id)
  rules_joins name UnimplementedBuiltIn id = export_joins _ refl refl (has_attr macro_export_name (attrs_of item.attrs)) name id
  rules_joins name (Declarative styles) id = export_joins _ refl refl (has_attr macro_export_name (attrs_of item.attrs)) name id
  rules_joins name (BuiltIn n) id = export_joins _ refl refl (has_attr macro_export_name (attrs_of item.attrs)) name id
  rules_joins name (BuiltInEager n) id = export_joins _ refl refl (has_attr macro_export_name (attrs_of item.attrs)) name id
  rules_joins name (BuiltInAttr attr) id = export_joins _ refl refl (has_attr macro_export_name (attrs_of item.attrs)) name id
  rules_joins name (BuiltInDerive n) id = export_joins _ refl refl (has_attr macro_export_name (attrs_of item.attrs)) name id

  -- a `macro` item, by its expander
  item_joins : (name : Name) (vis : Visibility) (expander : MacroExpander) (id : MacroId) → JoinsCalls s (item_effect s site item name vis expander id)
  item_joins name vis UnimplementedBuiltIn id = none_joins s _ refl refl (tt, tt)
  item_joins name vis (Declarative styles) id = none_joins s _ refl refl (tt, tt)
  item_joins name vis (BuiltIn n) id = none_joins s _ refl refl (tt, tt)
  item_joins name vis (BuiltInEager n) id = none_joins s _ refl refl (tt, tt)
  item_joins name vis (BuiltInAttr attr) id = none_joins s _ refl refl (tt, tt)
  item_joins name vis (BuiltInDerive n) id = none_joins s _ refl refl (tt, tt)

  -- a call that is made, waits, or is nothing
  told_joins : (t : State) → t.macros ≡ s.macros → t.deferred ≡ s.deferred → (written : WrittenCall) (value : Option MacroCallId) (error : Option ℕ) → JoinsCalls s (told_effect oracle t site item written value error)
  told_joins t macros deferred written value (Some error) = call_joins s t site item written macros deferred
  told_joins t macros deferred written None None = none_joins s _ macros deferred tt
  told_joins t macros deferred written (Some call) None = expansion_joins oracle s (with_invocations t site.scope ((position_of site item, call) ∷ [])) (expansion_at site call) macros deferred

  -- what is answered to a call
  answered_joins : (written : WrittenCall) (answer : Result CallAnswer UnresolvedMacro) → JoinsCalls s (answered_effect oracle s site item written answer)
  answered_joins written (Ok answer) = told_joins (with_invocations s site.scope answer.inner) refl refl written answer.value answer.err
  answered_joins written (Err e) = call_joins s s site item written refl refl

  -- a function, whatever it exports
  function_joins : (name : Name) (vis : Visibility) (function : FunctionId) (exported : Option MacroDecl) (effect : Effect) → DeclaresFunction oracle s site item name vis function exported effect → JoinsCalls s effect
  function_joins name vis function None effect does = known_joins s effect _ does (none_joins s _ refl refl (tt, tt))
  function_joins name vis function (Some decl) effect does = known_joins s effect _ does.2 (none_joins s _ refl refl (tt, (tt, (tt, tt))))

  -- what each rule does
  follows_joins : (rule : Rule) (effect : Effect) → Follows oracle s site item rule effect → JoinsCalls s effect
  follows_joins (declares kind d ns name raw) effect does = known_joins s effect _ does.2 (none_joins s _ refl refl (tt, tt))
  follows_joins (declares_struct name raw ctor) effect does =
      known_joins s effect _ does.2 (none_joins s _ refl refl (tt, ctor_no_tries name (def.Struct (record { 0 = does.0 })) (written_vis oracle s site.scope raw) (ctor_vis oracle s site.scope ctor)))
  follows_joins (declares_function name raw) effect does = function_joins name _ (record { 0 = does.0 }) (exported_macro s site item name) effect does.2
  follows_joins (opens_module name raw contents) effect does = known_joins s effect _ does (module_joins name (written_vis oracle s site.scope raw) contents)
  follows_joins (opens_block children) effect does =
      let inner : Site = record site { container = contained.ExternBlock (record { 0 = does.0 }) } in
      known_joins s effect _ does.2 (none_joins s _ refl refl (walk_no_tries oracle inner children))
  follows_joins (queues raw imports) effect does = known_joins s effect _ does.2 (none_joins s _ refl refl tt)
  follows_joins (binds_crate name raw alias) effect does =
      known_joins s effect _ does.2 (crate_joins _ refl refl (record { 0 = does.0 }) (crate_name name alias) (written_vis oracle s site.scope raw) (macros_brought oracle s item name (named_crate s name)) (named_crate s name))
  follows_joins (notes_impl of_trait) effect does = known_joins s effect _ does.2 (none_joins s _ refl refl tt)
  follows_joins notes_const effect does = known_joins s effect _ does.2 (none_joins s _ refl refl tt)
  follows_joins (defines_rules name) effect does =
      known_joins s effect _ does.4 (rules_joins name (rules_expander oracle s.map.id.krate site item does.1) (macro_of.MacroRules (record { 0 = does.0 })))
  follows_joins (defines_macro name raw) effect does =
      known_joins s effect _ does.2 (item_joins name (written_vis oracle s site.scope raw) (item_expander oracle s.map.id.krate site item name) (macro_of.Macro2 (record { 0 = does.0 })))
  follows_joins (calls_macro written) effect does = known_joins s effect _ does (answered_joins written _)

-- an item that is handled lets calls join alone
pub kind_joins : (oracle : Oracle) (s : State) (site : Site) (item : ItemNode) (effect : Effect) → HandlesByKind oracle s site item effect → JoinsCalls s effect
kind_joins oracle s site item effect does =
    let joins = follows_joins oracle (record s { session = does.0 }) site item (rule_of item.kind) effect does.2 in
    record { more = joins.more; macros = joins.macros; none = joins.none; deferred = joins.deferred; tasks = joins.tasks }
