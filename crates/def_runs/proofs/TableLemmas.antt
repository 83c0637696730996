-- Tables that are written out are closed, coherent and raised where the tests say so.
use Rattle.std.proofs.Common.{eq-eqb, true≢false, ◌≡◌, inl, inr, ℕ, zero, suc, Bool, true, false, cond, not, ◌&&◌, ◌||◌, Option, Some, None, is_some, List, [], ◌∷◌, slice_get, refl, sym, subst, ap, ◌∙◌}
use Rattle.std.proofs.lemmas.Bool.{and_from, and_parts, false_from_ne_true, or_cases}
use Rattle.std.specs.List.{list_all}
use Rattle.tree_ids.specs.declared.name.Name.{Name}
use Rattle.def_ids.specs.declared.ids.GlobId.{GlobId}
use Rattle.def_ids.specs.declared.ids.ModuleId.{ModuleId}
use Rattle.def_ids.specs.Equality.{def_eq, glob_eq}
use Rattle.def_ids.specs.Ids.{is_same_module}
use Rattle.def_bindings.specs.declared.bindings.Binding.{Binding}
use Rattle.def_bindings.specs.declared.bindings.EdgeTo.{EdgeTo}
use Rattle.def_bindings.specs.declared.bindings.Namespace.{Namespace}
use Rattle.def_bindings.specs.declared.bindings.Slot.{Slot}
use Rattle.def_bindings.specs.declared.bindings.Slot.TheVariants.{Named, Unnamed}
use Rattle.def_bindings.specs.declared.visibility.Visibility.{Visibility}
use Rattle.def_bindings.specs.Closure.{Follows, IsClosed, IsCoherent}
use Rattle.def_bindings.specs.Content.{Content, bound_as, listed_as, is_name, is_namespace, vis_of}
use Rattle.def_bindings.specs.DefLaws.{def-eq}
use Rattle.def_bindings.specs.IdLaws.{same_module_equal, glob-eq, module-refl, name-eq, namespace-eq}
use Rattle.def_bindings.specs.Order.{Order, rises_to}
use Rattle.def_bindings.specs.Puts.{carried, glob_of, held}
use Rattle.def_globs.specs.Raised.{IsRaisedAt}
use Rattle.def_runs.proofs.Tables.{all_bound, all_leaving, Bound, bound_by, edges_by, is_at_target, is_at_target_of, is_carried, is_closed, is_coherent, is_def_or_unseen, is_high_enough, is_kept_by, is_raised, IsTable, Leaving}

-- something that is said of each binding holds of all bindings of a table
abbrev HoldsOfAll : {B : Type 0} → (ModuleId → Name → Namespace → B → Type 0) → (ModuleId → Name → Namespace → Option B) → Type 0
HoldsOfAll P binding = (m : ModuleId) (x : Name) (n : Namespace) (b : _) → binding m x n ≡ Some b → P m x n b

-- it holds of all where it holds of one that is set, and of all before
all_with : {B : Type 0} (P : ModuleId → Name → Namespace → B → Type 0) (f : ModuleId → Name → Namespace → Option B) (at : ModuleId) (name : Name) (ns : Namespace) (b : B)
    → P at name ns b → HoldsOfAll P f → HoldsOfAll P (bound_as f at name ns (Some b))
all_with P f at name ns b here before m x n c h = by (is_same_module at m && (is_name name x && is_namespace ns n)) refl h
  where
    by : (t : Bool) → (is_same_module at m && (is_name name x && is_namespace ns n)) ≡ t → cond t (Some b) (f m x n) ≡ Some c → P m x n c
    by false e h = before m x n c h
    by true e h =
        let first = and_parts (is_same_module at m) _ e in
        let second = and_parts (is_name name x) (is_namespace ns n) first.1 in
        let same : b ≡ c = cc in
        subst (λ z. P z x n c) (same_module_equal at m first.0)
        (subst (λ z. P at z n c) (name-eq name x second.0)
        (subst (λ z. P at name z c) (namespace-eq ns n second.1) (subst (P at name ns) same here)))

-- what holds of the list that one module is given, and of the lists of all others, holds of all
pub lists_with : {A : Type 0} (P : ModuleId → A → Type 0) (f : ModuleId → A) (at : ModuleId) (a : A) → P at a
    → ((m : ModuleId) → is_same_module at m ≡ false → P m (f m)) → (m : ModuleId) → P m (listed_as f at a m)
lists_with P f at a here others m = by (is_same_module at m) refl
  where
    by : (t : Bool) → is_same_module at m ≡ t → P m (cond t a (f m))
    by false e = others m e
    by true e = subst (λ z. P z a) (same_module_equal at m e) here

-- two globs that are apart are so the other way round
pub other_glob : (g h : GlobId) → glob_eq g h ≡ false → glob_eq h g ≡ false
other_glob g h apart =
    false_from_ne_true (glob_eq h g)
    (λ e. let itself : glob_eq h h ≡ true = and_from _ _ (eq-eqb h.use_id.0 h.use_id.0 refl) (eq-eqb h.idx h.idx refl) in
    let same : glob_eq g h ≡ glob_eq h h = ap (λ z. glob_eq z h) (sym (glob-eq h g e)) in
    true≢false (sym (same ∙ itself) ∙ apart))

-- a test that passes at each of a list passes at each of its places
passes_at : {X : Type 0} (test : X → Bool) (xs : List X) (index : ℕ) (x : X) → list_all test xs ≡ true → slice_get xs index ≡ Some x → test x ≡ true
passes_at test [] index x all h = cc
passes_at test (y ∷ ys) zero x all h = let same : y ≡ x = cc in subst (λ z. test z ≡ true) same (and_parts (test y) (list_all test ys) all).0
passes_at test (y ∷ ys) (suc index) x all h = passes_at test ys index x (and_parts (test y) (list_all test ys) all).1 h

-- a test that passes at each of a list of bindings passes at all that is bound
pub passes_bound : (test : ModuleId → Name → Namespace → Binding Visibility → Bool) (rows : List Bound) → all_bound test rows ≡ true → HoldsOfAll (λ m x n b. test m x n b ≡ true) (bound_by rows)
passes_bound test [] all = λ m x n b h. cc
passes_bound test (r ∷ rs) all =
    let parts = and_parts (test r.at r.name r.ns r.held) (all_bound test rs) all in
    all_with (λ m x n b. test m x n b ≡ true) (bound_by rs) r.at r.name r.ns r.held parts.0 (passes_bound test rs parts.1)

-- a test that passes at each of a list of edges passes at each edge
pub passes_leaving : (test : ModuleId → EdgeTo Visibility → Bool) (leaving : List Leaving) → all_leaving test leaving ≡ true
    → (source : ModuleId) (index : ℕ) (edge : EdgeTo Visibility) → slice_get (edges_by leaving source) index ≡ Some edge → test source edge ≡ true
passes_leaving test [] all = λ source index edge h. cc
passes_leaving test (l ∷ ls) all =
    let parts = and_parts (list_all (test l.source) l.edges) (all_leaving test ls) all in
    lists_with (λ source es. (index : ℕ) (edge : EdgeTo Visibility) → slice_get es index ≡ Some edge → test source edge ≡ true) (edges_by ls) l.source l.edges
    (λ index edge. passes_at (test l.source) l.edges index edge parts.0) (λ m apart. passes_leaving test ls parts.1 m)

-- what is there is something
there : {X : Type 0} (found : Option X) → is_some found ≡ true → (x : X) × (found ≡ Some x)
there (Some x) h = (x, refl)
there None h = cc

-- a premise that holds leaves what it leads to
led_to : (p q : Bool) → p ≡ true → (not p || q) ≡ true → q ≡ true
led_to true q holds h = h
led_to false q holds h = cc

both_hold : (p q : Bool) → p ≡ true → q ≡ true → (p && q) ≡ true
both_hold true q h k = k
both_hold false q h k = cc

-- what is not so is false
pub is_false : (p : Bool) → not p ≡ true → p ≡ false
is_false false h = refl
is_false true h = cc

module _ (rows : List Bound) (leaving : List Leaving) (c : Content Visibility) (is : IsTable rows leaving c) where
  -- what a table binds, as it is written out
  written_binding : (m : ModuleId) (x : Name) (n : Namespace) (b : Binding Visibility) → c.binding m x n ≡ Some b → bound_by rows m x n ≡ Some b
  written_binding m x n b h = sym (ap (λ f. f m x n) is.binding) ∙ h

  written_edge : (source : ModuleId) (index : ℕ) (edge : EdgeTo Visibility) → slice_get (c.edges source) index ≡ Some edge → slice_get (edges_by leaving source) index ≡ Some edge
  written_edge source index edge h = sym (ap (λ f. slice_get (f source) index) is.edges) ∙ h

  -- each slot that is held is a name's
  held_by_name : (m : ModuleId) (slot : Slot) (b : Binding Visibility) → held c m slot ≡ Some b → (x : Name) × (n : Namespace) × (slot ≡ Named x n) × (bound_by rows m x n ≡ Some b)
  held_by_name m (Named x n) b h = (x, n, refl, written_binding m x n b h)
  held_by_name m (Unnamed t) b h = let none = ap (λ f. vis_of (f m) t) is.unnamed in absurd cc

  -- names are closed where the test says so, whatever is left out
  pub closed_by_test : (o : Order Visibility) (left_out : ModuleId → Bool) → is_closed o rows leaving ≡ true → IsClosed o left_out c
  closed_by_test o left_out passes source index edge (Named x n) b at left h sees =
      let each = passes_leaving (λ source edge. all_bound (is_carried o rows source edge) rows) leaving passes source index edge (written_edge source index edge at) in
      let this = passes_bound (is_carried o rows source edge) rows each source x n b (written_binding source x n b h) in
      let found = there (bound_by rows edge.importer x n) (led_to (is_same_module source source && o.can_see edge.importer b.vis) _ (both_hold _ _ (module-refl source) sees) this) in
      (found.0, ap (λ f. f edge.importer x n) is.binding ∙ found.1)
  closed_by_test o left_out passes source index edge (Unnamed t) b at left h sees = let none = ap (λ f. vis_of (f source) t) is.unnamed in absurd cc

  -- names are coherent where the test says so
  pub coherent_by_test : (o : Order Visibility) (left_out : ModuleId → Bool) (target_of : GlobId → Option ModuleId) → is_coherent o rows target_of ≡ true → IsCoherent o left_out target_of c
  coherent_by_test o left_out target_of passes importer x n b glob target h by leads left left_target =
      let this = passes_bound (λ importer x n b. is_at_target_of o rows target_of importer x n b (glob_of b.import)) rows passes importer x n b (written_binding importer x n b h) in
      let of_glob = subst (λ g. is_at_target_of o rows target_of importer x n b g ≡ true) (ap glob_of by) this in
      let at_it = subst (λ t. is_at_target o rows importer x n b t ≡ true) leads of_glob in
      found (bound_by rows target x n) refl at_it
    where
      found : (held : Option (Binding Visibility)) → bound_by rows target x n ≡ held → is_def_or_unseen o importer b held ≡ true → Follows o c target importer (Named x n) b.def
      found None e test = cc
      found (Some there) e test = (
        there,
        ap (λ f. f target x n) is.binding ∙ e,
        elim (or_cases (def_eq there.def b.def) (not (o.can_see importer there.vis)) test) [
          | inl same ↦ inl (def-eq there.def b.def same)
          | inr unseen ↦ inr (is_false (o.can_see importer there.vis) unseen)
        ],
      )

  -- names are raised where the test says so
  pub raised_by_test : (o : Order Visibility) → is_raised o rows leaving ≡ true → (importer : ModuleId) (slot : Slot) → IsRaisedAt o c importer slot
  raised_by_test o passes importer slot source index edge at to b stands glob h sees k by same = named slot h k
    where
      named : (slot : Slot) → held c source slot ≡ Some b → held c edge.importer slot ≡ Some stands → rises_to o stands.vis (carried o edge b).vis ≡ false
      named (Unnamed t) h k = let none = ap (λ f. vis_of (f source) t) is.unnamed in absurd cc
      named (Named x n) h k =
          let each = passes_leaving (λ source edge. all_bound (is_kept_by o rows source edge) rows) leaving passes source index edge (written_edge source index edge at) in
          let this = passes_bound (is_kept_by o rows source edge) rows each edge.importer x n stands (written_binding edge.importer x n stands k) in
          let high = led_to (is_same_module edge.importer edge.importer) _ (module-refl edge.importer) this in
          is_false _ (subst (λ found. is_high_enough o edge stands found ≡ true) (written_binding source x n b h) high)
