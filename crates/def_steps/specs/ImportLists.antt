-- Imports in lists whose places may be empty, and what the end of a run does with those that are unresolved.
use Rattle.std.specs.Prelude.{ℕ, List, [], ◌∷◌, ◌++◌, cond, map, filter_map, ◌≡◌, Option, Some, None, is_some, option_and_then, slice_get, slice_set, IsPermutation}
use Rattle.item_tree.specs.declared.items.UseImport.{UseImport}
use Rattle.tree_ids.specs.declared.name.Name.{Name}
use Rattle.def_ids.specs.declared.ids.ModuleId.{ModuleId}
use Rattle.def_modules.specs.Maps.{with_module}
use Rattle.def_modules.specs.MapState.{MapState}
use Rattle.def_modules.specs.Scopes.{marked_failed}
use Rattle.def_rules.specs.Imports.{bound_name, is_empty, no_namespaces, unresolved_imports}
use Rattle.def_rules.specs.State as rules
use Rattle.def_steps.specs.declared.directive.ImportDirective.{ImportDirective}
use Rattle.def_steps.specs.declared.directive.NamespaceSet.{NamespaceSet}
use Rattle.def_steps.specs.declared.import_lists.ImportAt.{ImportAt}
use Rattle.def_steps.specs.declared.import_lists.ImportList.{ImportList}
use Rattle.def_steps.specs.declared.import_lists.ImportList.TheVariants.{Unresolved, Indeterminate}
use Rattle.def_steps.specs.declared.import_lists.PendingImports.{PendingImports}
use Rattle.def_steps.specs.declared.import_lists.WrittenUse.{WrittenUse}
use Rattle.def_steps.specs.Listed.{entry_in, with_number}
use Rattle.def_steps.specs.Shown.{directive_of, import_of, kept_with, ns_set}

-- the entries of a list that are still there
unfoldable pub present : {A : Type 0} → List (Option A) → List A
present entries = filter_map (λ entry. entry) entries

-- the imports of a list
abbrev pub directives_in : List (Option ImportDirective) → List rules.ImportDirective
directives_in entries = map directive_of (present entries)

-- the imports that may still be recorded, in the order in which they were queued
abbrev pub pending : PendingImports → List rules.ImportDirective
pending imports = directives_in imports.directives.items

-- the numbers in one of the two lists
abbrev pub numbers_in : ImportList → PendingImports → List ℕ
numbers_in Unresolved imports = imports.unresolved.items
numbers_in Indeterminate imports = imports.indeterminate.items

-- the import at a place of a list, if one stands there
abbrev pub import_at : PendingImports → ImportAt → Option ImportDirective
import_at imports at = option_and_then (λ number. option_and_then (entry_in at.list) (slice_get imports.directives.items number)) (slice_get (numbers_in at.list imports) at.index)

-- the imports of a `use` item, of which nothing is recorded yet
abbrev pub queued : ModuleId → WrittenUse → List UseImport → List rules.ImportDirective
queued at written imports =
    map (λ import. record {
      import = record { scope = at; position = written.position; use_id = written.use_id; written = import; vis = written.vis.now; is_prelude = written.is_prelude };
      recorded = no_namespaces;
    }) imports

-- an import left the others, and what is kept of it stands among them
pub record IsRetired (old : List rules.ImportDirective) (d : rules.ImportDirective) (kept new : List rules.ImportDirective) : Type 0 where
  pub rest : List rules.ImportDirective
  pub stands : IsPermutation old (d ∷ rest)
  pub left : IsPermutation (rest ++ kept) new

-- an import was recorded at its place, and stays with these namespaces or leaves: each other one stays as it was and where it stood, and where it was unresolved it stands last among those that are indeterminate
pub record IsInOrder (old : PendingImports) (at : ImportAt) (d : ImportDirective) (kept : Option NamespaceSet) (new : PendingImports) : Type 0 where
  pub number : ℕ
  pub stood : slice_get (numbers_in at.list old) at.index ≡ Some number
  pub entries : new.directives.items ≡ slice_set old.directives.items number (kept_with d.import kept)
  pub unresolved : new.unresolved.items ≡ old.unresolved.items
  pub indeterminate : new.indeterminate.items ≡ cond (is_some kept) (with_number at.list number old.indeterminate.items) old.indeterminate.items

-- the imports of a list that are unresolved
abbrev pub unresolved_in : List (Option ImportDirective) → List rules.Import
unresolved_in entries = unresolved_imports (directives_in entries)

-- the import that an entry holds, if it is there and unresolved
abbrev pub left_in : Option ImportDirective → List rules.Import
left_in None = []
left_in (Some d) = cond (is_empty (ns_set d.recorded)) (import_of d.import ∷ []) []

-- the map with the name that an import would have bound marked as failed
abbrev pub marked_once : rules.Import → Option (Option Name) → MapState → MapState
marked_once p (Some (Some name)) m = with_module m p.scope.index (marked_failed name)
marked_once p _ m = m

-- the map with the names of these imports marked, one after the other
abbrev pub marked_each : List rules.Import → MapState → MapState
marked_each [] m = m
marked_each (p ∷ ps) m = marked_each ps (marked_once p (bound_name p.written) m)
