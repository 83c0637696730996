-- What declaring a module leads to.
use Rattle.std.proofs.Common.{◌≡◌, ℕ, Bool, ◌||◌, List, [], ◌∷◌, ◌++◌, Option, Some, None, Result, Ok, Err, map, refl, sym, ap, subst, ◌∙◌}
use Rattle.std.specs.Global.{Global}
use Rattle.std.specs.Prelude.{String, Vec, string_bytes}
use Rattle.tree_ids.specs.declared.ids.CfgExpr.{CfgExpr}
use Rattle.tree_ids.specs.declared.ids.HirFileId.{HirFileId}
use Rattle.tree_ids.specs.declared.ids.ModItemId.{ModItemId}
use Rattle.item_tree.specs.declared.items.ItemNode.{ItemNode}
use Rattle.tree_ids.specs.declared.name.Name.{Name}
use Rattle.item_tree.specs.Attrs.{attrs_of}
use Rattle.def_ids.specs.declared.ids.Def.TheVariants.{Module}
use Rattle.def_ids.specs.declared.ids.ModuleId.{ModuleId}
use Rattle.def_bindings.specs.declared.bindings.Namespace.TheVariants.{Types}
use Rattle.def_bindings.specs.declared.visibility.Visibility.{Visibility}
use Rattle.def_modules.specs.declared.module_data.ModuleOrigin.{ModuleOrigin}
use Rattle.def_modules.specs.declared.module_data.ModuleOrigin.TheVariants as origin
use Rattle.def_oracle.specs.Oracle.{Oracle}
use Rattle.def_readings.specs.Directories.{AnswersFile, Directory, Files, FoundFile, resolve_declaration}
use Rattle.def_rules.specs.declared.diagnostics.DefDiagnosticKind.TheVariants.{UnconfiguredCode, UnresolvedModule}
use Rattle.def_laws.specs.Performs.{IsDone, Performs, Updated}
use Rattle.def_rules.specs.Crates.{tree_attrs}
use Rattle.def_rules.specs.Items.{declared_entry, diagnostic, put_declared, top_items, tree_cfg, walk}
use Rattle.def_rules.specs.Modules.{add_module, bring_if, file_tree, inline_contents, inner_site, is_macro_use, module_effect, next_module, outline_found, outline_item}
use Rattle.def_rules.specs.State.{State, Effect, Site, Task, reported, module_site}
use Rattle.def_laws.proofs.StepsLaws.{performs_none, performs_updated}

-- a module was added and put
abbrev pub IsPushed : State → State → Site → Name → Visibility → ModuleOrigin → Type 0
IsPushed s t site name vis o = Updated site.scope (declared_entry name Types (Module (next_module s)) vis ∷ []) (add_module s site.scope name vis o) t

-- a module was added and put, and its contents are left
pub module_done : (oracle : Oracle) (s t : State) (site : Site) (name : Name) (vis : Visibility) (o : ModuleOrigin) (contents inner : List Task) → inner ≡ contents → IsPushed s t site name vis o
    → IsDone oracle (module_effect s site name vis o contents) t inner
module_done oracle s t site name vis o contents inner same added = record {
  puts = put_declared site.scope name Types (Module (next_module s)) vis ∷ [];
  tasks = ap (λ l. put_declared site.scope name Types (Module (next_module s)) vis ∷ l) (sym same);
  performs = performs_updated site.scope (declared_entry name Types (Module (next_module s)) vis ∷ []) (add_module s site.scope name vis o) t added;
}

module _ (oracle : Oracle) (s t : State) (site : Site) (name : Name) (vis : Visibility) (o : ModuleOrigin) (brings : Bool) (children : List ModItemId) (found : Option Directory) (added : IsPushed s t site name vis o) where
  -- an inline module that lies too deep
  pub inline_too_deep : None ≡ found → IsDone oracle (module_effect s site name vis o (inline_contents oracle s site brings children found)) t []
  inline_too_deep deep = module_done oracle s t site name vis o (inline_contents oracle s site brings children found) [] (ap (inline_contents oracle s site brings children) deep) added

  -- an inline module whose items are left
  pub inline_opened : (child : ModuleId) (directory : Directory) (behind : ModuleId → List Task) → child ≡ next_module s → Some directory ≡ found → behind child ≡ bring_if brings child site.scope
      → IsDone oracle (module_effect s site name vis o (inline_contents oracle s site brings children found)) t (walk oracle (module_site child site.tree site.depth directory) children ++ behind child)
  inline_opened child directory behind numbered deep last =
      module_done oracle s t site name vis o (inline_contents oracle s site brings children found) (walk oracle (module_site child site.tree site.depth directory) children ++ behind child)
      (ap (λ l. walk oracle (module_site child site.tree site.depth directory) children ++ l) last
      ∙ ap (λ m. walk oracle (module_site m site.tree site.depth directory) children ++ bring_if brings m site.scope) numbered
      ∙ ap (inline_contents oracle s site brings children) deep) added

module _ (oracle : Oracle) (s t : State) (site : Site) (item : ItemNode) (name : Name) (vis : Visibility) where
  done_same : (e f : Effect) (inner : List Task) → e ≡ f → IsDone oracle e t inner → IsDone oracle f t inner
  done_same e f inner same done = subst (λ effect. IsDone oracle effect t inner) same done

  -- a file that cfg disables was reported
  pub file_disabled : (found : FoundFile) (cfg : CfgExpr) → Some cfg ≡ tree_cfg oracle (file_tree found) → t ≡ reported s (diagnostic site item (UnconfiguredCode cfg)) → IsDone oracle (outline_item oracle s site item name vis (Ok found)) t []
  file_disabled found cfg off after =
      let r : State = reported s (diagnostic site item (UnconfiguredCode cfg)) in
      done_same (outline_found oracle s site item name vis found (Some cfg)) (outline_item oracle s site item name vis (Ok found)) [] (ap (outline_found oracle s site item name vis found) off)
      (record { puts = []; tasks = refl; performs = subst (λ u. Performs oracle [] r u) (sym after) (performs_none r) })

  -- a file's items are left
  pub file_opened : (found : FoundFile) (child : ModuleId) (ids : List ModItemId) (behind : List Task) → None ≡ tree_cfg oracle (file_tree found) → child ≡ next_module s → ids ≡ top_items oracle (file_tree found)
      → behind ≡ bring_if (is_macro_use (attrs_of item.attrs) || is_macro_use (tree_attrs oracle (file_tree found))) child site.scope
      → IsPushed s t site name vis (origin.File item.ast_id site.tree found.0 found.1)
      → IsDone oracle (outline_item oracle s site item name vis (Ok found)) t (walk oracle (module_site child (file_tree found) site.depth found.2) ids ++ behind)
  file_opened found child ids behind on numbered top last added =
      let brings : Bool = is_macro_use (attrs_of item.attrs) || is_macro_use (tree_attrs oracle (file_tree found)) in
      done_same (outline_found oracle s site item name vis found None) (outline_item oracle s site item name vis (Ok found)) _ (ap (outline_found oracle s site item name vis found) on)
      (module_done oracle s t site name vis (origin.File item.ast_id site.tree found.0 found.1)
      (walk oracle (inner_site s site (file_tree found) found.2) (top_items oracle (file_tree found)) ++ bring_if brings (next_module s) site.scope)
      (walk oracle (module_site child (file_tree found) site.depth found.2) ids ++ behind)
      (ap (λ l. walk oracle (module_site child (file_tree found) site.depth found.2) ids ++ l) last
      ∙ ap (λ m. walk oracle (module_site m (file_tree found) site.depth found.2) ids ++ bring_if brings m site.scope) numbered
      ∙ ap (λ l. walk oracle (inner_site s site (file_tree found) found.2) l ++ bring_if brings (next_module s) site.scope) top) added)

  -- what is known of a found file is what was asked
  pub outline_same : (a b : Result FoundFile (List (List ℕ))) (inner : List Task) → a ≡ b → IsDone oracle (outline_item oracle s site item name vis b) t inner → IsDone oracle (outline_item oracle s site item name vis a) t inner
  outline_same a b inner same done = done_same (outline_item oracle s site item name vis b) (outline_item oracle s site item name vis a) inner (ap (outline_item oracle s site item name vis) (sym same)) done

  -- a file that was not found was reported, and the module is empty
  pub file_missing : (wanted : Result FoundFile (List (List ℕ))) (files : List (List ℕ)) (r : State) → wanted ≡ Err files → r ≡ reported s (diagnostic site item (UnresolvedModule files))
      → IsPushed r t site name vis (origin.Inline item.ast_id site.tree)
      → IsDone oracle (outline_item oracle s site item name vis wanted) t []
  file_missing wanted files r is told added =
      outline_same wanted (Err files) [] is
      (module_done oracle (reported s (diagnostic site item (UnresolvedModule files))) t site name vis (origin.Inline item.ast_id site.tree) [] [] refl
      (subst (λ x. IsPushed x t site name vis (origin.Inline item.ast_id site.tree)) told added))

-- a database that lacks a module's files was asked for these
pub asked_files : (files : Files) (file : HirFileId) (above : Directory) (text name : List ℕ) (asked attr : Option (List ℕ)) (answer : Result FoundFile (Vec (String Global) Global)) (missing : Vec (String Global) Global)
    → text ≡ name → asked ≡ attr → answer ≡ Err missing → AnswersFile answer (resolve_declaration files file above text asked) → resolve_declaration files file above name attr ≡ Err (map string_bytes missing.items)
asked_files files file above text name asked attr answer missing named given is answers =
    ap (λ n. resolve_declaration files file above n attr) (sym named)
    ∙ ap (λ a. resolve_declaration files file above text a) (sym given)
    ∙ subst (λ r. AnswersFile r (resolve_declaration files file above text asked)) is answers
