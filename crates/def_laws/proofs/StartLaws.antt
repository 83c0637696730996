-- What is known before the first item, and the work that a run begins with.
use Rattle.std.proofs.Common.{Bor, ◌≡◌, ℕ, false, cond, List, [], ◌++◌, Option, Some, None, option_and_then, option_map, refl, sym, ap, subst, append-nil, is_some, ◌∙◌}
use Rattle.std.specs.Option.{option_copied, unwrap_or}
use Rattle.item_tree.specs.declared.attrs.Attr.{Attr}
use Rattle.tree_ids.specs.declared.ids.CfgExpr.{CfgExpr}
use Rattle.tree_ids.specs.declared.ids.ModItemId.{ModItemId}
use Rattle.tree_ids.specs.declared.ids.TreeId.{TreeId}
use Rattle.item_tree.specs.declared.tree.ItemTree.{ItemTree}
use Rattle.item_tree.specs.Attrs.{attrs_in, cfg_in}
use Rattle.item_tree.specs.declared.mod_path.ModPath.{ModPath}
use Rattle.def_ids.specs.declared.ids.ModuleId.{ModuleId}
use Rattle.def_sources.specs.declared.per_ns.PerNs.{PerNs}
use Rattle.def_modules.specs.MapState.{MapState}
use Rattle.def_modules.specs.MapView.{LocalView}
use Rattle.def_oracle.specs.Oracle.{Oracle}
use Rattle.def_paths.specs.Paths.{for_module, module_found, module_reached, resolve}
use Rattle.def_readings.specs.Directories.{Directory, root_directory}
use Rattle.def_rules.specs.Crates.{prelude_module, prelude_path, tree_attrs}
use Rattle.def_rules.specs.Items.{top_items, tree_cfg, walk}
use Rattle.def_rules.specs.Start.{crate_head, first_depth, first_head, first_reports, first_tasks, first_tree, first_walk, head_of, informed, site_at, started, told, with_attrs, with_deps, with_head, with_prelude}
use Rattle.def_rules.specs.State.{State, root, module_site, world}
use Rattle.def_laws.specs.Runs.{Leads}
use Rattle.def_laws.proofs.StepsLaws.{leads_refl}

module _ (oracle : Oracle) (m : MapState) (tree first : TreeId) (same : first ≡ first_tree oracle m.id tree) where
  -- a tree that cfg disables is not walked
  first_disabled : (cfg : CfgExpr) → Some cfg ≡ tree_cfg oracle first → first_tasks oracle m tree ≡ []
  first_disabled cfg off =
      ap (λ t. first_walk oracle (site_at oracle m t) (top_items oracle t) (tree_cfg oracle t)) (sym same)
      ∙ ap (λ c. first_walk oracle (site_at oracle m first) (top_items oracle first) c) (sym off)

  -- and is reported, where it is a crate's
  first_reported : (s : State) (cfg : CfgExpr) → Some cfg ≡ tree_cfg oracle first
      → told oracle m tree s ≡ record s { diagnostics = s.diagnostics ++ first_reports m first (is_some m.id.block) (Some cfg) }
  first_reported s cfg off =
      ap (λ t. record s { diagnostics = s.diagnostics ++ first_reports m t (is_some m.id.block) (tree_cfg oracle t) }) (sym same)
      ∙ ap (λ c. record s { diagnostics = s.diagnostics ++ first_reports m first (is_some m.id.block) c }) (sym off)

  -- any other is walked
  first_walked : (ids : List ModItemId) → None ≡ tree_cfg oracle first → ids ≡ top_items oracle first → first_tasks oracle m tree ≡ walk oracle (site_at oracle m first) ids
  first_walked ids on top =
      ap (λ t. first_walk oracle (site_at oracle m t) (top_items oracle t) (tree_cfg oracle t)) (sym same)
      ∙ ap (λ c. first_walk oracle (site_at oracle m first) (top_items oracle first) c) (sym on)
      ∙ ap (λ l. walk oracle (site_at oracle m first) l) (sym top)

  -- with no report
  first_silent : (s : State) → None ≡ tree_cfg oracle first → told oracle m tree s ≡ s
  first_silent s on =
      ap (λ t. record s { diagnostics = s.diagnostics ++ first_reports m t (is_some m.id.block) (tree_cfg oracle t) }) (sym same)
      ∙ ap (λ c. record s { diagnostics = s.diagnostics ++ first_reports m first (is_some m.id.block) c }) (sym on)
      ∙ ap (λ l. record s { diagnostics = l }) (append-nil s.diagnostics)

  -- a run over a tree that cfg disables ends at once
  seeds_disabled : (s t : State) (cfg : CfgExpr) → Some cfg ≡ tree_cfg oracle first → t ≡ record s { diagnostics = s.diagnostics ++ first_reports m first (is_some m.id.block) (Some cfg) }
      → Leads oracle (first_tasks oracle m tree) (told oracle m tree s) [] t
  seeds_disabled s t cfg off last =
      subst (λ tasks. Leads oracle tasks (told oracle m tree s) [] t) (sym (first_disabled cfg off))
      (subst (λ u. Leads oracle [] (told oracle m tree s) [] u) (first_reported s cfg off ∙ sym last) (leads_refl [] (told oracle m tree s)))

  -- a walk from the root's directory is the run over the tree
  seeds_walked : (s t : State) (depth : ℕ) (directory : Directory) (ids : List ModItemId) → depth ≡ first_depth oracle m.id first → directory ≡ root_directory → None ≡ tree_cfg oracle first → ids ≡ top_items oracle first
      → Leads oracle (walk oracle (module_site (root m) first depth directory) ids) s [] t → Leads oracle (first_tasks oracle m tree) (told oracle m tree s) [] t
  seeds_walked s t depth directory ids deep at_root on top run =
      subst (λ u. Leads oracle (first_tasks oracle m tree) u [] t) (sym (first_silent s on))
      (subst (λ tasks. Leads oracle tasks s [] t)
      (ap (λ n. walk oracle (module_site (root m) first n directory) ids) deep ∙ ap (λ d. walk oracle (module_site (root m) first (first_depth oracle m.id first) d) ids) at_root ∙ sym (first_walked ids on top)) run)

module _ (oracle : Oracle) (s s1 : State) (tree first : TreeId) (attrs : List Attr) (off : Option CfgExpr) (same : first ≡ first_tree oracle s.map.id tree) (known : s1 ≡ with_head s (first_head oracle attrs off s))
    (said : attrs ≡ tree_attrs oracle first) (by_cfg : off ≡ tree_cfg oracle first) where
  -- what is known before the first item is what the start says
  informs : s1 ≡ informed oracle (first_tree oracle s.map.id tree) s
  informs =
      known
      ∙ ap (λ a. with_head s (first_head oracle a off s)) said
      ∙ ap (λ c. with_head s (first_head oracle (tree_attrs oracle first) c s)) by_cfg
      ∙ ap (λ t. informed oracle t s) same

  -- a tree that cfg disables: the run ends at once
  pub starts_disabled : (t : State) (cfg : CfgExpr) → off ≡ Some cfg → t ≡ record s1 { diagnostics = s1.diagnostics ++ first_reports s1.map first (is_some s1.map.id.block) (Some cfg) }
      → Leads oracle (first_tasks oracle s.map tree) (started oracle tree s) [] t
  starts_disabled t cfg is last =
      let ends : s1 ≡ with_head s (first_head oracle attrs off s) → Leads oracle (first_tasks oracle s.map tree) (told oracle s.map tree s1) [] t = λ e.
      subst (λ u. t ≡ record u { diagnostics = u.diagnostics ++ first_reports u.map first (is_some u.map.id.block) (Some cfg) } → Leads oracle (first_tasks oracle s.map tree) (told oracle s.map tree u) [] t)
      (sym e) (seeds_disabled oracle s.map tree first same (with_head s (first_head oracle attrs off s)) t cfg (sym is ∙ by_cfg)) last in
      subst (λ u. Leads oracle (first_tasks oracle s.map tree) (told oracle s.map tree u) [] t) informs (ends known)

  -- any other: the run is the walk from the root's directory
  pub starts_walked : (t : State) (depth : ℕ) (directory : Directory) (ids : List ModItemId) → off ≡ None → depth ≡ first_depth oracle s.map.id first → directory ≡ root_directory → ids ≡ top_items oracle first
      → Leads oracle (walk oracle (module_site (root s.map) first depth directory) ids) s1 [] t → Leads oracle (first_tasks oracle s.map tree) (started oracle tree s) [] t
  starts_walked t depth directory ids is deep at_root top run =
      subst (λ u. Leads oracle (first_tasks oracle s.map tree) (told oracle s.map tree u) [] t) informs
      (seeds_walked oracle s.map tree first same s1 t depth directory ids deep at_root (sym is ∙ by_cfg) top run)

-- What is read of a tree that the oracle has, or lacks

-- the condition that disables it
pub cfg_of : (oracle : Oracle) (id : TreeId) (tree : Option (Bor ItemTree)) → option_copied tree ≡ oracle.item_tree id → option_and_then (λ (t : Bor ItemTree). cfg_in t.now.attrs) tree ≡ tree_cfg oracle id
cfg_of oracle id tree known = below tree ∙ ap (option_and_then (λ (t : ItemTree). cfg_in t.attrs)) known
  where
    below : (o : Option (Bor ItemTree)) → option_and_then (λ (t : Bor ItemTree). cfg_in t.now.attrs) o ≡ option_and_then (λ (t : ItemTree). cfg_in t.attrs) (option_copied o)
    below None = refl
    below (Some t) = refl

-- its top items
pub tops_of : (oracle : Oracle) (id : TreeId) (tree : Option (Bor ItemTree)) → option_copied tree ≡ oracle.item_tree id → unwrap_or (option_map (λ (t : Bor ItemTree). t.now.top) tree) [] ≡ top_items oracle id
tops_of oracle id tree known = below tree ∙ ap (λ o. unwrap_or (option_map (λ (t : ItemTree). t.top) o) []) known
  where
    below : (o : Option (Bor ItemTree)) → unwrap_or (option_map (λ (t : Bor ItemTree). t.now.top) o) [] ≡ unwrap_or (option_map (λ (t : ItemTree). t.top) (option_copied o)) []
    below None = refl
    below (Some t) = refl

-- its attributes
pub attrs_of : (oracle : Oracle) (id : TreeId) (tree : Option (Bor ItemTree)) → option_copied tree ≡ oracle.item_tree id → unwrap_or (option_map (λ (t : Bor ItemTree). (attrs_in t.now.attrs).list) tree) [] ≡ tree_attrs oracle id
attrs_of oracle id tree known = below tree ∙ ap (λ o. unwrap_or (option_map (λ (t : ItemTree). (attrs_in t.attrs).list) o) []) known
  where
    below : (o : Option (Bor ItemTree)) → unwrap_or (option_map (λ (t : Bor ItemTree). (attrs_in t.now.attrs).list) o) [] ≡ unwrap_or (option_map (λ (t : ItemTree). (attrs_in t.attrs).list) (option_copied o)) []
    below None = refl
    below (Some t) = refl

-- What is known of a crate

-- the root file and the dependencies, and then the prelude
pub crate_seeded : (oracle : Oracle) (attrs : List Attr) (s t u : State) → t ≡ with_head s (with_deps oracle s (with_attrs attrs (head_of s))) → u ≡ with_head t (with_prelude oracle t (head_of t))
    → u ≡ with_head s (crate_head oracle attrs s)
crate_seeded oracle attrs s t u read found = found ∙ ap (λ x. with_head x (with_prelude oracle x (head_of x))) read

-- the module that the prelude's path gives
pub prelude_found : (oracle : Oracle) (s : State) (local : LocalView) (path : ModPath) (found : PerNs × Option ℕ) (reached : Option ModuleId) → s.map.krate.no_core ≡ false
    → reached ≡ module_reached found.0 found.1
    → found ≡ ((resolve (record (world oracle s) { local = local }) for_module (root s.map) path).resolved_def, (resolve (record (world oracle s) { local = local }) for_module (root s.map) path).segment_index)
    → local ≡ unwrap_or s.outer s.local → path ≡ prelude_path s.map.krate.edition s.map.krate.no_std local → reached ≡ prelude_module oracle s
prelude_found oracle s local path found reached core is answered known written =
    is
    ∙ ap (λ (f : PerNs × Option ℕ). module_reached f.0 f.1) answered
    ∙ ap (λ p. module_found (resolve (record (world oracle s) { local = local }) for_module (root s.map) p)) written
    ∙ ap (λ l. module_found (resolve (record (world oracle s) { local = l }) for_module (root s.map) (prelude_path s.map.krate.edition s.map.krate.no_std l))) known
    ∙ sym (ap (λ b. cond b None (module_found (resolve (world oracle s) for_module (root s.map) (prelude_path s.map.krate.edition s.map.krate.no_std (unwrap_or s.outer s.local))))) core)
