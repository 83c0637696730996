-- The laws of a table of rows: where its edges are, and that a name is listed exactly where it is bound.
use Rattle.std.specs.Prelude.{◌≡◌, Bool, true, ◌||◌, Option, Some, None, is_some, is_none, not, ◌&&◌, option_and_then, List, [], ◌∷◌, Contains, IsSome, ◌<◌, refl}
use Rattle.std.specs.Option.{option_map_or}
use Rattle.std.specs.Map.{keys_of}
use Rattle.indexmap.specs.IndexMap.{keys}
use Rattle.std.proofs.Common.{arith, sym, inl, inr}
use Rattle.std.proofs.lemmas.Bool.{cases_Bool}
use Rattle.std.proofs.lemmas.Map.Views.{Contains-keys_from_lookup}
use Rattle.tree_ids.specs.declared.name.Name.{Name}
use Rattle.def_bindings.specs.declared.bindings.Namespace.TheVariants.{Types, Values, Macros}
use Rattle.def_bindings.specs.declared.bindings.EdgeTo.{EdgeTo}
use Rattle.def_bindings.specs.declared.name_bindings.NameBindings.{NameBindings}
use Rattle.def_tables.specs.declared.row.Row.{Row}
use Rattle.def_tables.specs.declared.scope_table.ScopeTable.{ScopeTable}
use Rattle.def_bindings.specs.IdLaws.{same_module_equal}
use Rattle.def_bindings.specs.IdLaws.{both}
use Rattle.def_bindings.specs.Content.{is_name, is_listed, AreSources, AreTied}
use Rattle.def_bindings.specs.NameBindings.{is_unbound}
use Rattle.def_tables.specs.RowEntries.{binding_in, are_bound}
use Rattle.def_tables.specs.Row.{row_binding, row_names, row_edges}
use Rattle.def_tables.specs.ScopeTable.{rows_of, content_of}

row_there : {V : Type 0} (o : Option (Row V)) (e : EdgeTo V) → Contains (option_map_or row_edges o []) e → IsSome o
row_there None e h = absurd (let k : h.0 < 0 = h.1 in omega arith)
row_there (Some r) e h = search

-- every module with an edge has a row
pub are_sources : {V : Type 0} (t : ScopeTable V) → AreSources (content_of t) (keys t.rows)
are_sources t m e h = Contains-keys_from_lookup same_module_equal m t.rows.entries (row_there (rows_of t m) e h)

-- whether a name is bound in some namespace
abbrev is_bound_in : {V : Type 0} → List (Name × NameBindings V) → Name → Bool
is_bound_in es x = is_some (binding_in es x Types) || (is_some (binding_in es x Values) || is_some (binding_in es x Macros))

some_bound : {B : Type 0} (a b c : Option B) → not (is_none a && is_none b && is_none c) ≡ true → (is_some a || (is_some b || is_some c)) ≡ true
some_bound (Some a) b c h = refl
some_bound None (Some b) c h = refl
some_bound None None (Some c) h = refl
some_bound None None None h = cc

tied_entries : {V : Type 0} (es : List (Name × NameBindings V)) → are_bound es ≡ true → (x : Name) → is_listed (keys_of es) x ≡ is_bound_in es x
tied_entries [] h x = refl
tied_entries (e ∷ es) h x =
    let p = both (not (is_unbound e.1)) (are_bound es) h in
    elim (cases_Bool (is_name x e.0)) [
      | inl k ↦ rw k (sym (some_bound e.1.types e.1.values e.1.macros p.0))
      | inr k ↦ rw k (tied_entries es p.1 x)
    ]

tied_row : {V : Type 0} (o : Option (Row V)) (x : Name)
    → is_listed (option_map_or row_names o []) x
    ≡ (is_some (option_and_then (λ r. row_binding r x Types) o) || (is_some (option_and_then (λ r. row_binding r x Values) o) || is_some (option_and_then (λ r. row_binding r x Macros) o)))
tied_row None x = refl
tied_row (Some r) x = tied_entries r.names.entries r.bound x

-- a name is listed exactly where it is bound
pub are_tied : {V : Type 0} (t : ScopeTable V) → AreTied (content_of t).binding (content_of t).names
are_tied t m x = tied_row (rows_of t m) x
