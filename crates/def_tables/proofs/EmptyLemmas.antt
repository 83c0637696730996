-- Tables with nothing in them.
use Rattle.std.proofs.Common.{◌≡◌, ℕ, Bool, true, false, ◌||◌, cond, List, [], ◌∷◌, Option, Some, None, refl, ap, sym, ◌∙◌, inl, inr}
use Rattle.std.proofs.lemmas.Bool.{cases_Bool, eq-eqb}
use Rattle.std.specs.Prelude.{is_some, map}
use Rattle.def_tables.specs.IndexedVec.{get}
use Rattle.std.specs.Map.{lookup}
use Rattle.tree_ids.specs.declared.name.Name.{Name}
use Rattle.def_ids.specs.declared.ids.MapId.{MapId}
use Rattle.def_ids.specs.declared.ids.ModuleId.{ModuleId}
use Rattle.def_ids.specs.Ids.{is_same_map}
use Rattle.def_bindings.specs.declared.bindings.Namespace.{Namespace}
use Rattle.def_bindings.specs.declared.bindings.Namespace.TheVariants.{Types, Values, Macros}
use Rattle.def_tables.specs.declared.link.Link.{Link}
use Rattle.def_tables.specs.declared.bound_name.BoundName.{BoundName}
use Rattle.def_tables.specs.declared.place.Placed.{Placed}
use Rattle.def_tables.specs.declared.numbered_table.NumberedTable.{NumberedTable}
use Rattle.def_bindings.specs.Content.{empty, is_name, is_listed, is_bound}
use Rattle.def_bindings.specs.IdLaws.{module-refl, name-refl, same_map_itself}
use Rattle.def_bindings.specs.Tree.{module_of}
use Rattle.def_tables.specs.Link.{edge_of}
use Rattle.def_tables.specs.Lists.{lists_of}
use Rattle.def_tables.specs.Numbers.{own_entries, is_placed, placed_at}
use Rattle.def_tables.specs.NumberedTable.{content_of, other_rows, own_rows}
use Rattle.def_tables.specs.BoundName.{meaning_of, stands_for}
use Rattle.def_tables.specs.Places.{bindings_of, is_own_place, name_of, own_at}
use Rattle.def_tables.specs.BoundNameLaws.{listed-tied, stands-some}
use Rattle.def_tables.proofs.NumberedTableLemmas.{bindings-empty, other-here, own-here}

-- no values of any module, so none at all
pub no_entries : {K W : Type 0} (es : List (Placed K × W)) → own_entries es ≡ (λ (m : ModuleId). []) → es ≡ []
no_entries [] h = refl
no_entries {K} {W} (e ∷ es) h =
    let here : own_entries (e ∷ es) e.0.at ≡ [] = λ i. h i e.0.at in
    let there : own_entries (e ∷ es) e.0.at ≡ (e.0.key, e.1) ∷ own_entries es e.0.at = ap (λ b. cond b ((e.0.key, e.1) ∷ own_entries es e.0.at) (own_entries es e.0.at)) (module-refl e.0.at) in
    cc

pub no_own_entries : {K W : Type 0} (es : List (Placed K × W)) → es ≡ [] → own_entries es ≡ (λ (m : ModuleId). [])
no_own_entries es h = rw h refl

-- no bindings of any name, so no name has something
nothing-found : {V K : Type 0} (meaning : MapId → K → V) (map : MapId) (s : Option (BoundName V K)) → ((n : Namespace) → meaning_of meaning map s n ≡ None) → s ≡ None
nothing-found meaning map None h = refl
nothing-found meaning map (Some s) h =
    let there : (is_some (stands_for meaning map s Types) || (is_some (stands_for meaning map s Values) || is_some (stands_for meaning map s Macros))) ≡ true = stands-some meaning map s in
    cc (rw (h Types, h Values, h Macros) at there)

-- no entries where no key has something
no_places : {K W : Type 0} (eq : K → K → Bool) → ((k : K) → eq k k ≡ true) → (es : List (K × W)) → ((k : K) → lookup (eq k) es ≡ None) → es ≡ []
no_places eq same [] h = refl
no_places {K} {W} eq same (e ∷ es) h =
    let there : lookup (eq e.0) (e ∷ es) ≡ Some e.1 = ap (λ b. cond b (Some e.1) (lookup (eq e.0) es)) (same e.0) in
    cc (h e.0)

-- a list without names
pub no_names : (names : List Name) → ((x : Name) → is_listed names x ≡ false) → names ≡ []
no_names [] h = refl
no_names (x ∷ xs) h = let here : is_listed (x ∷ xs) x ≡ true = ap (λ b. b || is_listed xs x) (name-refl x) in cc (h x)

-- an empty list of edges is one of links
pub no_links : {V : Type 0} (es : List (ModuleId × Link V)) → map edge_of es ≡ [] → es ≡ []
no_links [] h = refl
no_links (e ∷ es) h = cc

module _ {V K : Type 0} (meaning : MapId → K → V) (t : NumberedTable V K) where
  -- a table without content keeps nothing
  pub empty_parts : content_of meaning t ≡ empty → (own_rows t ≡ []) × (other_rows t ≡ []) × (own_entries t.unnamed.entries.entries ≡ (λ (m : ModuleId). [])) × (own_entries t.edges.entries.entries ≡ (λ (m : ModuleId). []))
  unfolding content_of
  empty_parts h = (
    no_places is_own_place (λ p. rw (eq-eqb p.index p.index refl, name-refl p.name) refl) (own_rows t) (λ p. own p.index p.name),
    no_places (is_placed is_name) (λ p. rw (module-refl p.at, name-refl p.key) refl) (other_rows t) (λ p. other p.at p.key),
    λ i. (h i).unnamed,
    λ i m. no_links (own_entries t.edges.entries.entries m) (λ j. (h j).edges m) i,
  )
    where
      none : (m : ModuleId) (x : Name) → name_of t.map (own_rows t) (other_rows t) m x ≡ None
      none m x = nothing-found meaning t.map (name_of t.map (own_rows t) (other_rows t) m x) (λ n. λ i. (h i).binding m x n)

      own : (index : ℕ) (x : Name) → get is_own_place (own_rows t) (own_at index x) ≡ None
      own index x = let m = module_of t.map index in sym (own-here meaning t.map (own_rows t) (own_rows t) (other_rows t) (other_rows t) m x (same_map_itself t.map)) ∙ none m x

      other : (m : ModuleId) (x : Name) → get (is_placed is_name) (other_rows t) (placed_at m x) ≡ None
      other m x = elim (cases_Bool (is_same_map m.map t.map)) [
        | inl k ↦ t.apart m x k
        | inr k ↦ sym (other-here meaning t.map (own_rows t) (own_rows t) (other_rows t) (other_rows t) m x k) ∙ none m x
      ]

  -- a table that keeps nothing has no content
  pub empty_whole : own_rows t ≡ [] → other_rows t ≡ [] → own_entries t.unnamed.entries.entries ≡ (λ (m : ModuleId). []) → own_entries t.edges.entries.entries ≡ (λ (m : ModuleId). []) → content_of meaning t ≡ empty
  unfolding content_of
  empty_whole own others unnamed edges = λ i. record {
    binding = bindings i;
    names = λ m. no_names (lists_of t.names m) (λ x. unlisted m x) i;
    unnamed = unnamed i;
    edges = λ m. map edge_of (edges i m);
  }
    where
      bindings : bindings_of meaning t.map (own_rows t) (other_rows t) ≡ (λ (m : ModuleId) (x : Name) (n : Namespace). None)
      bindings = bindings-empty meaning t.map (own_rows t) (other_rows t) own others

      unlisted : (m : ModuleId) (x : Name) → is_listed (lists_of t.names m) x ≡ false
      unlisted m x = listed-tied meaning t.map (own_rows t) (other_rows t) (lists_of t.names) t.listed m x ∙ ap (λ f. is_bound f m x) bindings
