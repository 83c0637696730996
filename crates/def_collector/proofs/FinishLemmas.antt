-- The end of a run: names marked one after the other are marked by what is left over.
use Rattle.std.proofs.Common.{◌≡◌, ◌+◌, ℕ, zero, suc, Bool, true, false, cond, ◌&&◌, ◌||◌, nat_eq, List, [], ◌∷◌, ◌++◌, filter, map, All, Option, Some, None, refl, sym, ap, subst, ◌∙◌, arith, inl, inr}
use Rattle.std.specs.List.{flat_map}
use Rattle.std.proofs.lemmas.Bool.{cases_Bool}
use Rattle.std.proofs.lemmas.Bool.Decides.{eqb_tells}
use Rattle.std.proofs.lemmas.List.Elements.{All-head, All-tail}
use Rattle.tree_ids.specs.declared.name.Name.{Name}
use Rattle.indexmap.specs.IndexMap.{IndexMap, IsUnique, get}
use Rattle.def_ids.specs.declared.ids.Def.{Def}
use Rattle.def_ids.specs.declared.ids.GlobId.{GlobId}
use Rattle.def_ids.specs.declared.ids.ModuleId.{ModuleId}
use Rattle.def_ids.specs.Equality.{glob_eq}
use Rattle.def_ids.specs.Ids.{is_same_module}
use Rattle.def_tables.specs.declared.link.Link.{Link}
use Rattle.def_tables.specs.declared.place.Placed.{Placed}
use Rattle.def_bindings.specs.declared.visibility.Visibility.{Visibility}
use Rattle.def_bindings.specs.IdLaws.{same_module_equal}
use Rattle.def_tables.specs.Link.{edge_of}
use Rattle.def_tables.specs.NumberedTable.{all_edges, content_of}
use Rattle.def_tables.specs.Numbers.{own_entries}
use Rattle.def_sources.specs.Tables.{Table, bound_by}
use Rattle.def_rules.specs.declared.outcome.Edge.{Edge}
use Rattle.def_modules.specs.MapState.{MapState, ModuleState}
use Rattle.def_modules.specs.Scopes.{marked_failed}
use Rattle.def_modules.specs.Updates.{update_at}
use Rattle.def_rules.specs.declared.diagnostics.DefDiagnostic.{DefDiagnostic}
use Rattle.def_rules.specs.declared.outcome.LeftImport.{LeftImport}
use Rattle.def_steps.specs.ImportLists.{marked_each, marked_once}
use Rattle.def_steps.specs.Shown.{shown_edge}
use Rattle.def_rules.specs.Imports.{bound_name, unresolved_imports}
use Rattle.def_rules.specs.Report.{Answer, AreEdges, AreTargets, binds_name, is_left, leaves, left_import, left_macro, listed_edge, marked, marked_from, shown_targets, import_report}
use Rattle.def_laws.specs.Finished.{NoneFailed, IsFinished}
use Rattle.def_rules.specs.State.{State, Import}

-- Marks

-- a module on which the names of imports left over are marked beside those that were
abbrev also_failed : List Import → ℕ → ModuleState → ModuleState
also_failed left index d = record d { failed = λ name. is_left left index name || d.failed name }

-- the modules from this number on, each so
abbrev also_from : List Import → ℕ → List ModuleState → List ModuleState
also_from left index [] = []
also_from left index (d ∷ ds) = also_failed left index d ∷ also_from left (suc index) ds

abbrev also_marked : MapState → List Import → MapState
also_marked m left = record m { modules = also_from left 0 m.modules }

-- an import that does not mark a module leaves it as the rest marks it
module _ (p : Import) (ps : List Import) where
  -- the import marks this name of this module
  abbrev hits : ℕ → Name → Bool
  hits index name = nat_eq p.scope.index index && binds_name (bound_name p.written) name

  missed : (index : ℕ) (d : ModuleState) → ((name : Name) → hits index name ≡ false) → also_failed ps index d ≡ also_failed (p ∷ ps) index d
  missed index d miss = λ i. record d { failed = λ name. (sym (ap (λ h. (h || is_left ps index name) || d.failed name) (miss name))) i }

  missed_from : (index : ℕ) (ds : List ModuleState) → ((k : ℕ) (name : Name) → hits (index + k) name ≡ false) → also_from ps index ds ≡ also_from (p ∷ ps) index ds
  missed_from index [] miss = refl
  missed_from index (d ∷ ds) miss =
      ap (λ x. x ∷ also_from ps (suc index) ds) (missed index d (λ name. subst (λ k. hits k name ≡ false) (omega arith) (miss 0 name)))
      ∙ ap (λ xs. also_failed (p ∷ ps) index d ∷ xs) (missed_from (suc index) ds (λ k name. subst (λ x. hits x name ≡ false) (omega arith) (miss (suc k) name)))

  elsewhere : (index : ℕ) (name : Name) → (p.scope.index ≡ index → ⊥) → hits index name ≡ false
  elsewhere index name apart = elim (eqb_tells p.scope.index index) [
    | inl w ↦ absurd (apart w.1)
    | inr w ↦ ap (λ b. b && binds_name (bound_name p.written) name) w.0
  ]

  module _ (name : Name) (bound : bound_name p.written ≡ Some (Some name)) where
    both : (left before : Bool) (x : Name) (test : Bool) → left || cond test true before ≡ (test || left) || before
    both left before x true = or_true left
      where
        or_true : (b : Bool) → b || true ≡ true
        or_true true = refl
        or_true false = refl
    both left before x false = refl

    hit : (index : ℕ) (d : ModuleState) → p.scope.index ≡ index → also_failed ps index (marked_failed name d) ≡ also_failed (p ∷ ps) index d
    hit index d here = λ i. record d { failed = λ x. (both (is_left ps index x) (d.failed x) x (binds_name (Some (Some name)) x) ∙ ap (λ h. (h || is_left ps index x) || d.failed x) (sym (tests x))) i }
      where
        tests : (x : Name) → hits index x ≡ binds_name (Some (Some name)) x
        tests x = elim (eqb_tells p.scope.index index) [
          | inl w ↦ ap (λ b. b && binds_name (bound_name p.written) x) w.0 ∙ ap (λ b. binds_name b x) bound
          | inr w ↦ absurd (w.1 here)
        ]

    hit_from : (index k : ℕ) (ds : List ModuleState) → p.scope.index ≡ index + k → also_from ps index (update_at ds k (marked_failed name)) ≡ also_from (p ∷ ps) index ds
    hit_from index k [] at = refl
    hit_from index zero (d ∷ ds) at =
        ap (λ x. x ∷ also_from ps (suc index) ds) (hit index d (omega arith))
        ∙ ap (λ xs. also_failed (p ∷ ps) index d ∷ xs) (missed_from (suc index) ds (λ k x. elsewhere (suc index + k) x (λ e. omega arith)))
    hit_from index (suc k) (d ∷ ds) at =
        ap (λ x. x ∷ also_from ps (suc index) (update_at ds k (marked_failed name))) (missed index d (λ x. elsewhere index x (λ e. omega arith)))
        ∙ ap (λ xs. also_failed (p ∷ ps) index d ∷ xs) (hit_from (suc index) k ds (omega arith))

  and_false : (b : Bool) → b && false ≡ false
  and_false true = refl
  and_false false = refl

  -- an import that binds no name marks nothing
  unbound : (m : MapState) (x : Option (Option Name)) → ((name : Name) → binds_name x name ≡ false) → bound_name p.written ≡ x → also_marked m ps ≡ also_marked m (p ∷ ps)
  unbound m x never is =
      ap (λ ds. record m { modules = ds }) (missed_from 0 m.modules (λ k name. ap (λ b. nat_eq p.scope.index (0 + k) && b) (ap (λ b. binds_name b name) is ∙ never name) ∙ and_false (nat_eq p.scope.index (0 + k))))

  once : (m : MapState) (x : Option (Option Name)) → bound_name p.written ≡ x → also_marked (marked_once p x m) ps ≡ also_marked m (p ∷ ps)
  once m None is = unbound m None (λ name. refl) is
  once m (Some None) is = unbound m (Some None) (λ name. refl) is
  once m (Some (Some name)) is = ap (λ ds. record m { modules = ds }) (hit_from name is 0 p.scope.index m.modules (omega arith))

none_from : (index : ℕ) (ds : List ModuleState) → also_from [] index ds ≡ ds
none_from index [] = refl
none_from index (d ∷ ds) = ap (λ xs. d ∷ xs) (none_from (suc index) ds)

each_also : (ps : List Import) (m : MapState) → marked_each ps m ≡ also_marked m ps
each_also [] m = ap (λ ds. record m { modules = ds }) (sym (none_from 0 m.modules))
each_also (p ∷ ps) m = each_also ps (marked_once p (bound_name p.written) m) ∙ once p ps m (bound_name p.written) refl

or_false : (b before : Bool) → before ≡ false → b || before ≡ b
or_false true before none = refl
or_false false before none = none

fresh_from : (ps : List Import) (index : ℕ) (ds : List ModuleState) → All (λ d. (name : Name) → d.failed name ≡ false) ds → also_from ps index ds ≡ marked_from ps index ds
fresh_from ps index [] none = refl
fresh_from ps index (d ∷ ds) none =
    ap (λ x. x ∷ also_from ps (suc index) ds) (λ i. record d { failed = λ name. (or_false (is_left ps index name) (d.failed name) (All-head (λ (e : ModuleState). (name : Name) → e.failed name ≡ false) d ds none name)) i })
    ∙ ap (λ xs. record d { failed = is_left ps index } ∷ xs) (fresh_from ps (suc index) ds (All-tail (λ (e : ModuleState). (name : Name) → e.failed name ≡ false) d ds none))

-- where no name was marked before, exactly those of the imports left over are
pub marked_together : (ps : List Import) (m : MapState) → NoneFailed m → marked_each ps m ≡ marked m ps
marked_together ps m none = each_also ps m ∙ ap (λ ds. record m { modules = ds }) (fresh_from ps 0 m.modules none)

-- Edges and targets

edges_among : (es : List (Placed ModuleId × Link Visibility)) (source : ModuleId)
    → filter (leaves source) (map shown_edge (map (λ e. (e.0.at, edge_of (e.0.key, e.1))) es)) ≡ map (listed_edge source) (map edge_of (own_entries es source))
edges_among [] source = refl
edges_among (e ∷ es) source =
    elim (cases_Bool (is_same_module source e.0.at)) [
      | inl here ↦
          let same : source ≡ e.0.at = same_module_equal source e.0.at here in
          rw here (ap (λ l. shown_edge (e.0.at, edge_of (e.0.key, e.1)) ∷ l) (edges_among es source) ∙ ap (λ m. listed_edge m (edge_of (e.0.key, e.1)) ∷ map (listed_edge source) (map edge_of (own_entries es source))) (sym same))
      | inr other ↦ rw other (edges_among es source)
    ]

edges_in : (table : Table) (edges : List Edge) → edges ≡ map shown_edge (all_edges table) → AreEdges (bound_by table) edges
unfolding content_of
edges_in table edges all source = ap (filter (leaves source)) all ∙ edges_among table.edges.entries.entries source

-- all edges of a table are listed once
pub edges_listed : (table known : Table) (edges : List Edge) → table ≡ known → edges ≡ map shown_edge (all_edges table) → AreEdges (bound_by known) edges
edges_listed table known edges same all = subst (λ t. AreEdges (bound_by t) edges) same (edges_in table edges all)

-- so is what each glob was recorded with
pub targets_listed : {S : Type 0} (targets : IndexMap GlobId (List Def) S) (listed : List (GlobId × List Def)) → listed ≡ targets.entries → IsUnique glob_eq targets → AreTargets (get glob_eq targets) listed
targets_listed targets listed all unique =
    subst (λ l. AreTargets (get glob_eq targets) l) (sym all) (record { once = unique; all = λ glob. refl })

-- The answer

-- the answer is that of the end, whose unresolved imports were gone through
pub finished : (end : State) (limit_met : Bool) (answer : Answer) (m : MapState) (imports : List LeftImport) (diagnostics : List DefDiagnostic)
    → m ≡ marked_each (unresolved_imports end.imports) end.map
    → imports ≡ map left_import (unresolved_imports end.imports)
    → diagnostics ≡ end.diagnostics ++ flat_map (import_report end.missing_crates) (unresolved_imports end.imports)
    → answer.map ≡ m → answer.content ≡ end.content → answer.local ≡ end.local → answer.diagnostics ≡ diagnostics
    → answer.outcome.imports.items ≡ imports → answer.outcome.macros.items ≡ map left_macro end.macros → AreEdges end.content answer.outcome.edges.items → AreTargets end.targets (map shown_targets answer.outcome.targets.items) → answer.outcome.limit_met ≡ limit_met
    → IsFinished end limit_met answer
finished end limit_met answer m imports diagnostics marks left reports marking content local said lefts macros edges targets limit = record {
  map = λ none. marking ∙ marks ∙ marked_together (unresolved_imports end.imports) end.map none;
  content = content;
  local = local;
  outcome = record {
    imports = lefts ∙ left;
    macros = macros;
    edges = edges;
    targets = targets;
  };
  limit = limit;
  reported = said ∙ reports;
}
