-- Imports in two lists of their numbers: those that are unresolved, and those that are indeterminate.
use Rattle.std.specs.Prelude.{◌≡◌, ℕ, Bool, true, cond, not, nat_eq, is_some, List, [], ◌∷◌, ◌++◌, Option, Some, None, option_and_then, slice_get}
use Rattle.std.specs.List.{list_any}
use Rattle.def_rules.specs.Imports.{is_empty}
use Rattle.def_rules.specs.State.{NsSet}
use Rattle.def_steps.specs.declared.directive.ImportDirective.{ImportDirective}
use Rattle.def_steps.specs.declared.directive.NamespaceSet.{NamespaceSet}
use Rattle.def_steps.specs.declared.import_lists.ImportList.{ImportList}
use Rattle.def_steps.specs.declared.import_lists.ImportList.TheVariants.{Unresolved, Indeterminate}
use Rattle.def_steps.specs.Shown.{kept_with, ns_set}

-- whether an import that was recorded from these namespaces stands in a list: it is unresolved while it was recorded from none
abbrev pub is_in : ImportList → NsSet → Bool
is_in Unresolved recorded = is_empty recorded
is_in Indeterminate recorded = not (is_empty recorded)

-- the import of an entry, if it stands in this list
abbrev pub entry_in : ImportList → Option ImportDirective → Option ImportDirective
entry_in list None = None
entry_in list (Some d) = cond (is_in list (ns_set d.recorded)) (Some d) None

-- whether the import of this number stands in a list
abbrev pub stands_in : ImportList → List (Option ImportDirective) → ℕ → Bool
stands_in list entries number = is_some (option_and_then (entry_in list) (slice_get entries number))

-- what is left of an entry whose import stays with these namespaces, or leaves
abbrev pub kept_entry : Option ImportDirective → Option NamespaceSet → Option ImportDirective
kept_entry None kept = None
kept_entry (Some d) kept = kept_with d.import kept

-- whether a list has this number
abbrev pub has_number : List ℕ → ℕ → Bool
has_number numbers number = list_any (nat_eq number) numbers

-- each import that is there stands in the list of those that are unresolved, or of those that are indeterminate
abbrev pub IsListed : List (Option ImportDirective) → List ℕ → List ℕ → Type 0
IsListed entries unresolved indeterminate = (number : ℕ) (d : ImportDirective) → slice_get entries number ≡ Some (Some d) →
    has_number (cond (is_empty (ns_set d.recorded)) unresolved indeterminate) number ≡ true

-- the numbers of those that are indeterminate once one of a list is among them: an unresolved one stands last, another where it stood
abbrev pub with_number : ImportList → ℕ → List ℕ → List ℕ
with_number Unresolved number indeterminate = indeterminate ++ number ∷ []
with_number Indeterminate number indeterminate = indeterminate
