-- Contents of rows after a change of one row.
use Rattle.std.proofs.Common.{◌≡◌, Bool, true, false, ◌&&◌, cond, Option, Some, None, List, [], refl, sym, ap, ◌∙◌, inl, inr}
use Rattle.std.specs.Prelude.{option_and_then}
use Rattle.std.specs.Option.{option_map_or}
use Rattle.std.specs.List.{IsDistinct}
use Rattle.std.specs.Map.{keys_of}
use Rattle.indexmap.specs.IndexMap.{insert_entry}
use Rattle.def_ids.specs.declared.ids.ModuleId.{ModuleId}
use Rattle.tree_ids.specs.declared.name.Name.{Name}
use Rattle.def_ids.specs.declared.ids.TraitId.{TraitId}
use Rattle.def_bindings.specs.declared.bindings.Namespace.{Namespace}
use Rattle.def_bindings.specs.declared.bindings.Namespace.TheVariants.{Types, Values, Macros}
use Rattle.def_bindings.specs.declared.bindings.Binding.{Binding}
use Rattle.def_bindings.specs.declared.bindings.EdgeTo.{EdgeTo}
use Rattle.def_tables.specs.declared.row.Row.{Row}
use Rattle.def_ids.specs.Ids.{is_same_module}
use Rattle.def_bindings.specs.Content.{is_name, is_trait, is_namespace, bound_as, is_bound, with_name, without_name, with_binding, without_binding, with_unnamed, with_edge, replaced}
use Rattle.def_bindings.specs.NameBindings.{bound_in, with_bound}
use Rattle.def_tables.specs.Row.{row_binding, row_names, row_unnamed, row_edges, SameBindings, SameUnnamed, SameEdges, IsNew}
use Rattle.def_tables.specs.Link.{link_of}
use Rattle.def_tables.specs.RowEntries.{bindings_at, bindings_left}
use Rattle.def_tables.specs.ScopeTable.{content_by}
use Rattle.def_bindings.specs.IdLaws.{cases_module, module-refl, name-refl}
use Rattle.def_tables.proofs.ContentLemmas.{content_ext}
use Rattle.def_tables.proofs.ByModuleLemmas.{ChangesRow, shown, kept, listed}
use Rattle.def_tables.proofs.LinkLemmas.{edges-insert_entry}
use Rattle.def_tables.proofs.RowEntriesLemmas.{keys-insert_entry, binding_in-insert_entry, binding_in-bindings_left, keys-bindings_left, left_here, bound_or_empty}

module _ {V : Type 0} (old new : ModuleId → Option (Row V)) (at : ModuleId) (was : Option (Row V)) (row : Row V) (before : old at ≡ was) (after : ChangesRow old new at row) where
  bound : (name : Name) (ns : Namespace) (w : Option (Binding V))
      → ((x : Name) (n : Namespace) → row_binding row x n ≡ cond (is_name name x && is_namespace ns n) w (option_and_then (λ r. row_binding r x n) was))
      → (q : ModuleId) (x : Name) (n : Namespace) → (content_by new).binding q x n ≡ bound_as (content_by old).binding at name ns w q x n
  bound name ns w is q x n =
      shown old new at was row before after (λ o. option_and_then (λ r. row_binding r x n) o) q ∙ elim (cases_module at q) [
        | inl e ↦ rw e.1 (is x n ∙ ap (λ o. cond (is_name name x && is_namespace ns n) w (option_and_then (λ r. row_binding r x n) o)) (sym before ∙ ap old e.0))
        | inr e ↦ rw e refl
      ]

-- a row that is new has nothing
pub content-reserve : {V : Type 0} (old new : ModuleId → Option (Row V)) (at : ModuleId) (row : Row V) → old at ≡ None → ChangesRow old new at row → IsNew row → content_by new ≡ content_by old
content-reserve old new at row before after is =
    content_ext _ _
    (λ q x n. kept old new at None row before after (λ o. option_and_then (λ r. row_binding r x n) o) (rw is.names refl) q)
    (λ q. kept old new at None row before after (λ o. option_map_or row_names o []) (rw is.names refl) q)
    (λ q. kept old new at None row before after (λ o. option_map_or row_unnamed o []) (rw is.unnamed refl) q)
    (λ q. kept old new at None row before after (λ o. option_map_or row_edges o []) (rw is.edges refl) q)

module _ {V : Type 0} (old new : ModuleId → Option (Row V)) (at : ModuleId) (was row : Row V) (before : old at ≡ Some was) (after : ChangesRow old new at row) where
  same_names : SameBindings was row → (q : ModuleId) → (content_by new).names q ≡ (content_by old).names q
  same_names same = kept old new at (Some was) row before after (λ o. option_map_or row_names o []) (ap (λ es. keys_of es) same)

  same_binding : SameBindings was row → (q : ModuleId) (x : Name) (n : Namespace) → (content_by new).binding q x n ≡ (content_by old).binding q x n
  same_binding same q x n = kept old new at (Some was) row before after (λ o. option_and_then (λ r. row_binding r x n) o) (rw same refl) q

  same_unnamed : SameUnnamed was row → (q : ModuleId) → (content_by new).unnamed q ≡ (content_by old).unnamed q
  same_unnamed same = kept old new at (Some was) row before after (λ o. option_map_or row_unnamed o []) same

  same_edges : SameEdges was row → (q : ModuleId) → (content_by new).edges q ≡ (content_by old).edges q
  same_edges same = kept old new at (Some was) row before after (λ o. option_map_or row_edges o []) (rw same refl)

  -- nothing changed
  pub content-same : SameBindings was row → SameUnnamed was row → SameEdges was row → content_by new ≡ content_by old
  content-same b u e = content_ext _ _ (same_binding b) (same_names b) (same_unnamed u) (same_edges e)

  pub content-set : (name : Name) (ns : Namespace) (b : Binding V)
      → row.names.entries ≡ insert_entry is_name was.names.entries name (with_bound (bindings_at was.names.entries name) ns (Some b))
      → SameUnnamed was row → SameEdges was row → content_by new ≡ with_binding (content_by old) at name ns b
  content-set name ns b is u e =
      content_ext (content_by new) (with_binding (content_by old) at name ns b)
      (bound old new at (Some was) row before after name ns (Some b) (λ x n. rw is (binding_in-insert_entry was.names.entries name ns (Some b) x n)))
      (listed old new at (Some was) row before after (λ o. option_map_or row_names o []) (λ ks. with_name ks name)
      (ap (λ es. keys_of es) is ∙ keys-insert_entry was.names.entries name (with_bound (bindings_at was.names.entries name) ns (Some b))))
      (same_unnamed u) (same_edges e)

  pub content-unnamed : (item : TraitId) (vis : V) → row.unnamed.entries ≡ insert_entry is_trait was.unnamed.entries item vis
      → SameBindings was row → SameEdges was row → content_by new ≡ with_unnamed (content_by old) at item vis
  content-unnamed item vis is b e =
      content_ext (content_by new) (with_unnamed (content_by old) at item vis)
      (same_binding b) (same_names b)
      (listed old new at (Some was) row before after (λ o. option_map_or row_unnamed o []) (λ es. insert_entry is_trait es item vis) is)
      (same_edges e)

  pub content-edge : (edge : EdgeTo V) → IsDistinct is_same_module (keys_of was.edges.entries) → row.edges.entries ≡ insert_entry is_same_module was.edges.entries edge.importer (link_of edge)
      → SameBindings was row → SameUnnamed was row → content_by new ≡ with_edge (content_by old) at edge
  content-edge edge distinct is b u =
      content_ext (content_by new) (with_edge (content_by old) at edge)
      (same_binding b) (same_names b) (same_unnamed u)
      (listed old new at (Some was) row before after (λ o. option_map_or row_edges o []) (λ es. replaced es edge) (rw is (edges-insert_entry was.edges.entries edge distinct)))

  pub content-remove : (name : Name) (ns : Namespace) → IsDistinct is_name (row_names was) → row.names.entries ≡ bindings_left was.names.entries name ns
      → SameUnnamed was row → SameEdges was row → content_by new ≡ without_binding (content_by old) at name ns
  content-remove name ns distinct is u e =
      let c = content_by old in
      let left : Namespace → Option (Binding V) = λ k. bound_in (with_bound (bindings_at was.names.entries name) ns None) k in
      let same : left ≡ (λ k. bound_as c.binding at name ns None at name k) = λ i k. at_place k i in
      content_ext (content_by new) (without_binding c at name ns)
      (bound old new at (Some was) row before after name ns None (λ x n. rw is (binding_in-bindings_left was.names.entries name ns distinct x n)))
      (λ q. shown old new at (Some was) row before after (λ o. option_map_or row_names o []) q ∙
      ap (λ z. cond (is_same_module at q) z (c.names q))
      (ap (λ es. keys_of es) is ∙ keys-bindings_left was.names.entries name ns distinct
      ∙ sym (bound_or_empty (left Types) (left Values) (left Macros) (row_names was) (without_name (row_names was) name))
      ∙ ap (λ (l : Namespace → Option (Binding V)). cond (is_bound (λ m x n. l n) at name) (row_names was) (without_name (row_names was) name)) same
      ∙ ap (λ o. cond (is_bound (bound_as c.binding at name ns None) at name) (option_map_or row_names o []) (without_name (option_map_or row_names o []) name)) (sym before)))
      (same_unnamed u) (same_edges e)
    where
      at_place : (n : Namespace) → bound_in (with_bound (bindings_at was.names.entries name) ns None) n ≡ bound_as (content_by old).binding at name ns None at name n
      at_place n = left_here was.names.entries name ns n ∙ sym (rw (module-refl at, name-refl name, before) refl)

-- a module without a row has nothing to be taken out
pub content-absent : {V : Type 0} (old : ModuleId → Option (Row V)) (at : ModuleId) → old at ≡ None → (name : Name) (ns : Namespace) → content_by old ≡ without_binding (content_by old) at name ns
content-absent old at before name ns =
    content_ext (content_by old) (without_binding (content_by old) at name ns)
    (λ q x n. elim (cases_module at q) [
      | inl e ↦ rw (e.1, ← e.0, before) (cond-none (is_name name x && is_namespace ns n))
      | inr e ↦ rw e refl
    ])
    (λ q. elim (cases_module at q) [
      | inl e ↦ rw (e.1, ← e.0, before) (cond-nil _)
      | inr e ↦ rw e refl
    ])
    (λ q. refl) (λ q. refl)
  where
    cond-none : {A : Type 0} (b : Bool) → ◌≡◌ {A = Option A} None (cond b None None)
    cond-none true = refl
    cond-none false = refl

    cond-nil : {A : Type 0} (b : Bool) → ◌≡◌ {A = List A} [] (cond b [] [])
    cond-nil true = refl
    cond-nil false = refl
