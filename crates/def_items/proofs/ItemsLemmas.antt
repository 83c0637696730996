-- States after what an item puts.
use Rattle.std.proofs.Common.{◌≡◌, ℕ, List, length, map, Option, [], ◌∷◌, ◌++◌, Some, None, refl, sym, ap, subst, ◌∙◌, append-nil, Bool}
use Rattle.tree_ids.specs.declared.ids.FileAstId.{FileAstId}
use Rattle.tree_ids.specs.declared.ids.InFile.{InFile}
use Rattle.item_tree.specs.declared.items.CtorVisibility.{CtorVisibility}
use Rattle.item_tree.specs.declared.items.ImportAlias.{ImportAlias}
use Rattle.item_tree.specs.declared.items.ItemNode.{ItemNode}
use Rattle.item_tree.specs.declared.items.ModContents.{ModContents}
use Rattle.item_tree.specs.declared.items.ModItemKind.TheVariants.{Mod, Use, Struct, ExternCrate, ExternBlock, Impl}
use Rattle.item_tree.specs.declared.items.RawVisibility.{RawVisibility}
use Rattle.item_tree.specs.declared.items.UseImport.{UseImport}
use Rattle.tree_ids.specs.declared.name.Name.{Name}
use Rattle.def_ids.specs.declared.ids.Def.{Def}
use Rattle.def_ids.specs.declared.ids.Def.TheVariants.{Module}
use Rattle.def_ids.specs.declared.ids.Def.TheVariants as def
use Rattle.def_ids.specs.declared.ids.MacroId.{MacroId}
use Rattle.def_ids.specs.declared.ids.ModuleId.{ModuleId}
use Rattle.def_interner.specs.Session.{Session, StructItem, UseItem, in_module, ImplItem, ExternCrateItem, ExternBlockItem}
use Rattle.def_bindings.specs.declared.bindings.Entry.{Entry}
use Rattle.def_bindings.specs.declared.bindings.Namespace.TheVariants.{Types, Values}
use Rattle.def_bindings.specs.declared.visibility.Visibility.{Visibility}
use Rattle.def_bindings.specs.Puts.{lessened}
use Rattle.def_modules.specs.declared.module_data.ModuleOrigin.{ModuleOrigin}
use Rattle.def_modules.specs.Maps.{pushed, with_module}
use Rattle.def_modules.specs.MapState.{MapState, ModuleState}
use Rattle.def_map.specs.Oracle.{Oracle}
use Rattle.def_modules.specs.Scopes.{declared_in, with_child, with_extern_block, with_extern_crate, with_impl}
use Rattle.def_laws.specs.Performs.{Handled, IsDone, Performs, Updated}
use Rattle.def_rules.specs.Items.{ctor_vis, declare, declared_entry, is_prelude_import, loc_of, new_imports, position_of, struct_effect, written_vis, declared_effect, noted_in, walk}
use Rattle.def_rules.specs.Imports.{no_namespaces}
use Rattle.def_rules.specs.Macros.{macros_brought}
use Rattle.def_rules.specs.Modules.{add_module, fresh_module, module_item, next_module}
use Rattle.def_rules.specs.ExternCrates.{crate_effect, crate_name, named_crate}
use Rattle.def_rules.specs.Locations.{AddsOwn}
use Rattle.def_laws.proofs.LocationsLaws.{own_refl}
use Rattle.def_rules.specs.Rules.{Handles}
use Rattle.def_parts.specs.Directories.{Directory}
use Rattle.def_rules.specs.State.{State, Effect, ImportDirective, Rearranges, Site, Task, only, with_map, order, followed_by}
use Rattle.tree_ids.specs.declared.ids.ModItemId.{ModItemId}
use Rattle.def_ids.specs.declared.ids.ItemContainerId.TheVariants as contained
use Rattle.def_bindings.specs.declared.bindings.Namespace.{Namespace}
use Rattle.def_laws.proofs.StepsLaws.{performs_none, performs_rearranged, performs_updated}

module _ (oracle : Oracle) (s s1 t : State) (at : ModuleId) (name : Name) (d : Def) (vis : Visibility) (given : Option Visibility) where
  -- the entries of a struct were put
  abbrev StructPut : Option Visibility → Type 0
  StructPut ctor = Performs oracle (struct_effect s at name d vis ctor).tasks (struct_effect s at name d vis ctor).state t

  -- a struct without a constructor
  pub struct_put : (types : Entry Visibility) → given ≡ None → s1 ≡ declare s at d → types ≡ declared_entry name Types d vis → Updated at (types ∷ []) s1 t → StructPut given
  struct_put types none declared first put =
      subst StructPut (sym none)
      (performs_updated at (declared_entry name Types d vis ∷ []) (declare s at d) t (subst (λ u. Updated at (declared_entry name Types d vis ∷ []) u t) declared (subst (λ e. Updated at (e ∷ []) s1 t) first put)))

  -- a struct with a constructor
  pub struct_put_both : (ctor v : Visibility) (types values : Entry Visibility) → given ≡ Some ctor → s1 ≡ declare s at d → v ≡ lessened (order s1) ctor vis
      → types ≡ declared_entry name Types d vis → values ≡ declared_entry name Values d v → Updated at (types ∷ values ∷ []) s1 t → StructPut given
  struct_put_both ctor v types values has declared lesser first second put =
      let same : v ≡ lessened (order s) ctor vis = lesser ∙ ap (λ u. lessened (order u) ctor vis) declared in
      let both : Updated at (declared_entry name Types d vis ∷ declared_entry name Values d v ∷ []) s1 t =
      subst (λ e. Updated at (declared_entry name Types d vis ∷ e ∷ []) s1 t) second (subst (λ e. Updated at (e ∷ values ∷ []) s1 t) first put) in
      subst StructPut (sym has)
      (performs_updated at (declared_entry name Types d vis ∷ declared_entry name Values d (lessened (order s) ctor vis) ∷ []) (declare s at d) t
      (subst (λ x. Updated at (declared_entry name Types d vis ∷ declared_entry name Values d x ∷ []) (declare s at d) t) same
      (subst (λ u. Updated at (declared_entry name Types d vis ∷ declared_entry name Values d v ∷ []) u t) declared both)))

-- a definition in one namespace
pub declared_put : (oracle : Oracle) (s s1 t : State) (at : ModuleId) (name : Name) (ns : Namespace) (d : Def) (vis : Visibility) → s1 ≡ declare s at d → Updated at (declared_entry name ns d vis ∷ []) s1 t
    → Performs oracle (declared_effect s at name ns d vis).tasks (declared_effect s at name ns d vis).state t
declared_put oracle s s1 t at name ns d vis declared put =
    performs_updated at (declared_entry name ns d vis ∷ []) (declare s at d) t (subst (λ u. Updated at (declared_entry name ns d vis ∷ []) u t) declared put)

-- a module as a child
pub module_put : (s t u : State) (at : ModuleId) (name : Name) (vis : Visibility) (o : ModuleOrigin) (m : ModuleState) (index : ℕ) (pushed_map led declared : MapState)
    → m ≡ fresh_module s.map at.index name vis o → index ≡ length s.map.modules → pushed_map ≡ pushed s.map at.index m → led ≡ with_module pushed_map at.index (with_child name index)
    → declared ≡ with_module led at.index (declared_in (Module (record { map = s.map.id; index = index })))
    → t ≡ with_map s declared
    → Updated at (declared_entry name Types (Module (record { map = s.map.id; index = index })) vis ∷ []) t u
    → Updated at (declared_entry name Types (Module (next_module s)) vis ∷ []) (add_module s at name vis o) u
module_put s t u at name vis o m index pushed_map led declared fresh numbered added child recorded became put =
    let a : pushed_map ≡ pushed s.map at.index (fresh_module s.map at.index name vis o) = added ∙ ap (pushed s.map at.index) fresh in
    let b : led ≡ with_module (pushed s.map at.index (fresh_module s.map at.index name vis o)) at.index (with_child name (length s.map.modules)) =
    child ∙ ap (λ x. with_module x at.index (with_child name index)) a ∙ ap (λ i. with_module (pushed s.map at.index (fresh_module s.map at.index name vis o)) at.index (with_child name i)) numbered in
    let c : declared ≡ with_module (with_module (pushed s.map at.index (fresh_module s.map at.index name vis o)) at.index (with_child name (length s.map.modules))) at.index (declared_in (Module (next_module s))) =
    recorded ∙ ap (λ x. with_module x at.index (declared_in (Module (record { map = s.map.id; index = index })))) b
    ∙ ap (λ i. with_module (with_module (pushed s.map at.index (fresh_module s.map at.index name vis o)) at.index (with_child name (length s.map.modules))) at.index (declared_in (Module (record { map = s.map.id; index = i })))) numbered in
    let d : t ≡ add_module s at name vis o = became ∙ ap (with_map s) c in
    subst (λ i. Updated at (declared_entry name Types (Module (record { map = s.map.id; index = i })) vis ∷ []) (add_module s at name vis o) u) numbered
    (subst (λ x. Updated at (declared_entry name Types (Module (record { map = s.map.id; index = index })) vis ∷ []) x u) d put)

-- What handling an item leads to

-- a module was handled
pub handled_module : (oracle : Oracle) (s t : State) (site : Site) (item : ItemNode) (name : Name) (raw : RawVisibility) (contents : ModContents) (vis : Visibility) (inner : List Task)
    → item.kind ≡ Mod name raw contents → vis ≡ written_vis oracle s site.scope raw → IsDone oracle (module_item oracle s site item name vis contents) t inner → Handled oracle s t site item inner
handled_module oracle s t site item name raw contents vis inner kind seen done = record {
  effect = module_item oracle s site item name vis contents;
  handled = (s.session, own_refl site item s.session, subst (λ k. Handles oracle s site item k (module_item oracle s site item name vis contents)) (sym kind) (ap (λ v. module_item oracle s site item name v contents) seen));
  done = done;
}

-- the imports of a `use` item as the collector makes them
abbrev pub imports_at : ModuleId → InFile FileAstId → ℕ → RawVisibility → Bool → List UseImport → List ImportDirective
imports_at at position n raw prelude imports =
    map (λ written. record {
      import = record { scope = at; position = position; use_id = record { 0 = n }; written = written; vis = raw; is_prelude = prelude };
      recorded = no_namespaces;
    }) imports

-- a `use` item was handled, and its imports stand anywhere among the others
pub handled_use : (oracle : Oracle) (s t : State) (session : Session) (site : Site) (item : ItemNode) (raw : RawVisibility) (imports : List UseImport) (n : ℕ) (position : InFile FileAstId) (prelude : Bool)
    → item.kind ≡ Use raw imports → AddsOwn site item s.session session → position ≡ position_of site item → prelude ≡ is_prelude_import item.attrs → session.item UseItem n ≡ Some (in_module site.scope position)
    → Rearranges (record s { session = session; imports = s.imports ++ imports_at site.scope position n raw prelude imports }) t
    → Handled oracle s t site item []
handled_use oracle s t session site item raw imports n position prelude kind own placed asked numbered after =
    let effect : Effect = only (record s { session = session; imports = s.imports ++ new_imports site item (record { 0 = n }) raw imports }) in
    let number : session.item UseItem n ≡ Some (loc_of site UseItem item) = numbered ∙ ap (λ p. Some (in_module site.scope p)) placed in
    let became : record s { session = session; imports = s.imports ++ imports_at site.scope position n raw prelude imports } ≡ effect.state =
    ap (λ p. record s { session = session; imports = s.imports ++ imports_at site.scope p n raw prelude imports }) placed
    ∙ ap (λ b. record s { session = session; imports = s.imports ++ imports_at site.scope (position_of site item) n raw b imports }) asked in
    let same : Rearranges effect.state t = subst (λ u. Rearranges u t) became after in
    record {
      effect = effect;
      handled = (session, own, subst (λ k. Handles oracle (record s { session = session }) site item k effect) (sym kind) (n, number, refl));
      done = record { puts = []; tasks = refl; performs = performs_rearranged effect.state t same };
    }

-- a struct was handled
pub handled_struct : (oracle : Oracle) (s t : State) (session : Session) (site : Site) (item : ItemNode) (name : Name) (raw : RawVisibility) (written : CtorVisibility) (n : ℕ) (position : InFile FileAstId) (vis : Visibility) (ctor : Option Visibility)
    → item.kind ≡ Struct name raw written → AddsOwn site item s.session session → position ≡ position_of site item → session.item StructItem n ≡ Some (in_module site.scope position)
    → vis ≡ written_vis oracle (record s { session = session }) site.scope raw → ctor ≡ ctor_vis oracle (record s { session = session }) site.scope written
    → (let effect = struct_effect (record s { session = session }) site.scope name (def.Struct (record { 0 = n })) vis ctor in Performs oracle effect.tasks effect.state t)
    → Handled oracle s t site item []
handled_struct oracle s t session site item name raw written n position vis ctor kind own placed numbered seen built after =
    let effect : Effect = struct_effect (record s { session = session }) site.scope name (def.Struct (record { 0 = n })) vis ctor in
    let number : session.item StructItem n ≡ Some (loc_of site StructItem item) = numbered ∙ ap (λ p. Some (in_module site.scope p)) placed in
    let is : effect ≡ struct_effect (record s { session = session }) site.scope name (def.Struct (record { 0 = n })) (written_vis oracle (record s { session = session }) site.scope raw) (ctor_vis oracle (record s { session = session }) site.scope written) =
    ap (λ v. struct_effect (record s { session = session }) site.scope name (def.Struct (record { 0 = n })) v ctor) seen
    ∙ ap (struct_effect (record s { session = session }) site.scope name (def.Struct (record { 0 = n })) (written_vis oracle (record s { session = session }) site.scope raw)) built in
    record {
      effect = effect;
      handled = (session, own, subst (λ k. Handles oracle (record s { session = session }) site item k effect) (sym kind) (n, number, is));
      done = record { puts = effect.tasks; tasks = sym (append-nil effect.tasks); performs = after };
    }

-- Something was recorded in the module, and nothing put

module _ (oracle : Oracle) (s t : State) (session : Session) (site : Site) (item : ItemNode) (n : ℕ) (position : InFile FileAstId) (own : AddsOwn site item s.session session) (placed : position ≡ position_of site item) where
  abbrev kept : State
  kept = record s { session = session }

  -- an impl
  pub handled_impl : (of_trait : Bool) → item.kind ≡ Impl of_trait → session.item ImplItem n ≡ Some (in_module site.scope position)
      → t ≡ noted_in kept site.scope (with_impl (record { 0 = n }) of_trait) → Handled oracle s t site item []
  handled_impl of_trait kind numbered after =
      let effect : Effect = only (noted_in kept site.scope (with_impl (record { 0 = n }) of_trait)) in
      record {
        effect = effect;
        handled = (session, own, subst (λ k. Handles oracle kept site item k effect) (sym kind) (n, numbered ∙ ap (λ p. Some (in_module site.scope p)) placed, refl));
        done = record { puts = []; tasks = refl; performs = subst (λ u. Performs oracle [] effect.state u) (sym after) (performs_none effect.state) };
      }

  -- an extern crate
  pub handled_extern_crate : (name : Name) (raw : RawVisibility) (alias : Option ImportAlias) (u : State) (bound : Option Name) (vis : Visibility) (taken : List (Name × MacroId)) (root : Option ModuleId)
      → item.kind ≡ ExternCrate name raw alias → session.item ExternCrateItem n ≡ Some (in_module site.scope position) → u ≡ noted_in kept site.scope (with_extern_crate (record { 0 = n }))
      → bound ≡ crate_name name alias → vis ≡ written_vis oracle kept site.scope raw → taken ≡ macros_brought oracle kept item name root → root ≡ named_crate kept name
      → (let effect = crate_effect u site item (record { 0 = n }) bound vis taken root in Performs oracle effect.tasks effect.state t)
      → Handled oracle s t site item []
  handled_extern_crate name raw alias u bound vis taken root kind numbered noted named seen brings found after =
      let begun : State = noted_in kept site.scope (with_extern_crate (record { 0 = n })) in
      let effect : Effect = crate_effect u site item (record { 0 = n }) bound vis taken root in
      let number : session.item ExternCrateItem n ≡ Some (loc_of site ExternCrateItem item) = numbered ∙ ap (λ p. Some (in_module site.scope p)) placed in
      let seen_vis : Visibility = written_vis oracle kept site.scope raw in
      let is : effect ≡ crate_effect begun site item (record { 0 = n }) (crate_name name alias) seen_vis (macros_brought oracle kept item name (named_crate kept name)) (named_crate kept name) =
      ap (λ x. crate_effect x site item (record { 0 = n }) bound vis taken root) noted
      ∙ ap (λ x. crate_effect begun site item (record { 0 = n }) x vis taken root) named
      ∙ ap (λ x. crate_effect begun site item (record { 0 = n }) (crate_name name alias) x taken root) seen
      ∙ ap (λ x. crate_effect begun site item (record { 0 = n }) (crate_name name alias) seen_vis x root) brings
      ∙ ap (λ x. crate_effect begun site item (record { 0 = n }) (crate_name name alias) seen_vis (macros_brought oracle kept item name x) x) found in
      record {
        effect = effect;
        handled = (session, own, subst (λ k. Handles oracle kept site item k effect) (sym kind) (n, number, is));
        done = record { puts = effect.tasks; tasks = sym (append-nil effect.tasks); performs = after };
      }

  -- an extern block, whose items are walked in the same module
  pub handled_extern_block : (children items : List ModItemId) (directory : Directory) → item.kind ≡ ExternBlock children → items ≡ children → directory ≡ site.directory
      → session.item ExternBlockItem n ≡ Some (in_module site.scope position) → t ≡ noted_in kept site.scope (with_extern_block (record { 0 = n }))
      → Handled oracle s t site item (walk oracle (record site { container = contained.ExternBlock (record { 0 = n }); directory = directory }) items ++ [])
  handled_extern_block children items directory kind same_items same_directory numbered after =
      let effect : Effect = followed_by (noted_in kept site.scope (with_extern_block (record { 0 = n }))) (walk oracle (record site { container = contained.ExternBlock (record { 0 = n }) }) children) in
      record {
        effect = effect;
        handled = (session, own, subst (λ k. Handles oracle kept site item k effect) (sym kind) (n, numbered ∙ ap (λ p. Some (in_module site.scope p)) placed, refl));
        done = record {
          puts = [];
          tasks = ap (λ d. walk oracle (record site { container = contained.ExternBlock (record { 0 = n }); directory = d }) children) (sym same_directory)
              ∙ ap (λ l. walk oracle (record site { container = contained.ExternBlock (record { 0 = n }); directory = directory }) l) (sym same_items)
              ∙ sym (append-nil _);
          performs = subst (λ u. Performs oracle [] effect.state u) (sym after) (performs_none effect.state);
        };
      }
