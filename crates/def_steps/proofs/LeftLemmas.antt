-- The imports of a list that are unresolved, entry by entry.
use Rattle.std.proofs.Common.{◌≡◌, ◌+◌, ◌<◌, ◌≤◌, ℕ, Bool, List, [], ◌∷◌, ◌++◌, length, map, take, get_or, Option, Some, None, refl, sym, ap, subst, ◌∙◌, append-nil, append_assoc, cond, filter, inl, inr}
use Rattle.std.specs.List.{flat_map}
use Rattle.std.proofs.lemmas.Grind.{flat_map-append}
use Rattle.std.proofs.lemmas.Bool.{cases_Bool}
use Rattle.std.proofs.lemmas.List.Elements.{filter-append}
use Rattle.std.proofs.lemmas.List.{map-append, take_all, take_more}
use Rattle.tree_ids.specs.declared.name.Name.{Name}
use Rattle.def_modules.specs.MapState.{MapState}
use Rattle.def_steps.specs.declared.directive.ImportDirective.{ImportDirective}
use Rattle.def_rules.specs.declared.diagnostics.DefDiagnostic.{DefDiagnostic}
use Rattle.def_rules.specs.declared.outcome.LeftImport.{LeftImport}
use Rattle.def_rules.specs.Imports.{bound_name, is_empty, unresolved_imports}
use Rattle.def_rules.specs.Report.{left_import, import_report}
use Rattle.def_rules.specs.State as rules
use Rattle.def_steps.specs.Shown.{directive_of}
use Rattle.def_steps.specs.ImportLists.{directives_in, left_in, marked_each, marked_once, unresolved_in}
use Rattle.def_steps.proofs.ImportListsLaws.{present-nil, present_pushed, present_same}

-- marks one after the other
pub marked_each-append : (ps qs : List rules.Import) (m : MapState) → marked_each (ps ++ qs) m ≡ marked_each qs (marked_each ps m)
marked_each-append [] qs m = refl
marked_each-append (p ∷ ps) qs m = marked_each-append ps qs (marked_once p (bound_name p.written) m)

-- the unresolved imports of lists one after the other
pub unresolved-append : (ds es : List rules.ImportDirective) → unresolved_imports (ds ++ es) ≡ unresolved_imports ds ++ unresolved_imports es
unresolved-append ds es = ap (map (λ d. d.import)) (filter-append (λ d. is_empty d.recorded) ds es) ∙ map-append (λ d. d.import) (filter (λ d. is_empty d.recorded) ds) (filter (λ d. is_empty d.recorded) es)

unresolved_one : (d : rules.ImportDirective) → unresolved_imports (d ∷ []) ≡ cond (is_empty d.recorded) (d.import ∷ []) []
unresolved_one d = elim (cases_Bool (is_empty d.recorded)) [
  | inl is ↦ rw is refl
  | inr is ↦ rw is refl
]

unresolved_in_more : (entries : List (Option ImportDirective)) (entry : Option ImportDirective) → unresolved_in (entries ++ entry ∷ []) ≡ unresolved_in entries ++ left_in entry
unresolved_in_more entries None = ap (λ es. unresolved_imports (map directive_of es)) (present_same entries) ∙ sym (append-nil (unresolved_in entries))
unresolved_in_more entries (Some d) =
    ap unresolved_imports (present_pushed directive_of entries (entries ++ Some d ∷ []) d refl)
    ∙ unresolved-append (directives_in entries) (directive_of d ∷ [])
    ∙ ap (λ l. unresolved_in entries ++ l) (unresolved_one (directive_of d))

-- what was done once these entries were gone through
pub record LeftSoFar (missing : Name → Bool) (m now : MapState) (earlier imports : List LeftImport) (before said : List DefDiagnostic) (entries : List (Option ImportDirective)) : Type 0 where
  pub marks : now ≡ marked_each (unresolved_in entries) m
  pub lefts : imports ≡ earlier ++ map left_import (unresolved_in entries)
  pub reports : said ≡ before ++ flat_map (import_report missing) (unresolved_in entries)

module _ (missing : Name → Bool) (m : MapState) (earlier : List LeftImport) (before : List DefDiagnostic) where
  -- nothing was done yet
  pub left_none : LeftSoFar missing m m earlier earlier before before []
  left_none = record {
    marks = ap (λ ps. marked_each ps m) (sym nothing);
    lefts = sym (append-nil earlier) ∙ ap (λ ps. earlier ++ map left_import ps) (sym nothing);
    reports = sym (append-nil before) ∙ ap (λ ps. before ++ flat_map (import_report missing) ps) (sym nothing);
  }
    where
      nothing : unresolved_in [] ≡ []
      nothing = ap (λ es. unresolved_imports (map directive_of es)) (present-nil ImportDirective)

  -- one entry more
  pub left_more : (now next : MapState) (imports imports' : List LeftImport) (said said' : List DefDiagnostic) (entries : List (Option ImportDirective)) (entry : Option ImportDirective) (i : ℕ)
      → LeftSoFar missing m now earlier imports before said (take i entries) → i < length entries → entry ≡ get_or entries i entry
      → next ≡ marked_each (left_in entry) now → imports' ≡ imports ++ map left_import (left_in entry) → said' ≡ said ++ flat_map (import_report missing) (left_in entry)
      → LeftSoFar missing m next earlier imports' before said' (take (i + 1) entries)
  left_more now next imports imports' said said' entries entry i left within item marking adds saying = record {
    marks = marking ∙ ap (λ x. marked_each (left_in entry) x) left.marks ∙ sym (marked_each-append (unresolved_in (take i entries)) (left_in entry) m) ∙ ap (λ ps. marked_each ps m) (sym more);
    lefts =
        adds
        ∙ ap (λ xs. xs ++ map left_import (left_in entry)) left.lefts
        ∙ append_assoc earlier (map left_import (unresolved_in (take i entries))) (map left_import (left_in entry))
        ∙ ap (λ xs. earlier ++ xs) (sym (map-append left_import (unresolved_in (take i entries)) (left_in entry)) ∙ ap (map left_import) (sym more));
    reports =
        saying
        ∙ ap (λ xs. xs ++ flat_map (import_report missing) (left_in entry)) left.reports
        ∙ append_assoc before (flat_map (import_report missing) (unresolved_in (take i entries))) (flat_map (import_report missing) (left_in entry))
        ∙ ap (λ xs. before ++ xs) (sym (flat_map-append (import_report missing) (unresolved_in (take i entries)) (left_in entry)) ∙ ap (flat_map (import_report missing)) (sym more));
  }
    where
      more : unresolved_in (take (i + 1) entries) ≡ unresolved_in (take i entries) ++ left_in entry
      more = ap unresolved_in (take_more entries i entry within ∙ ap (λ e. take i entries ++ e ∷ []) (sym item)) ∙ unresolved_in_more (take i entries) entry

  -- all entries were gone through
  pub left_whole : (now : MapState) (imports : List LeftImport) (said : List DefDiagnostic) (entries : List (Option ImportDirective)) (i : ℕ) → LeftSoFar missing m now earlier imports before said (take i entries)
      → length entries ≤ i → LeftSoFar missing m now earlier imports before said entries
  left_whole now imports said entries i left past = subst (λ es. LeftSoFar missing m now earlier imports before said es) (take_all i entries past) left
