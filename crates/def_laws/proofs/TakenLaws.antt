-- A binding that is taken out of a table: what stands then stood before, and names that are sound stay so where the module is left out.
use Rattle.std.proofs.Common.{◌≡◌, ◌⊎◌, ℕ, Bool, true, false, cond, not, ◌||◌, List, [], ◌∷◌, filter, ◌&&◌, is_some, Option, Some, None, slice_get, refl, sym, ap, ◌∙◌, subst, inl, inr}
use Rattle.std.proofs.lemmas.Bool.{cases_Bool, eqb-true, or_left, or_right, or_cases}
use Rattle.tree_ids.specs.declared.name.Name.{Name}
use Rattle.def_ids.specs.declared.ids.Def.{Def}
use Rattle.def_ids.specs.declared.ids.Def.TheVariants as def
use Rattle.def_ids.specs.declared.ids.FunctionId.{FunctionId}
use Rattle.def_ids.specs.declared.ids.GlobId.{GlobId}
use Rattle.def_ids.specs.declared.ids.ModuleId.{ModuleId}
use Rattle.def_ids.specs.Ids.{is_same_module}
use Rattle.def_bindings.specs.declared.bindings.Binding.{Binding}
use Rattle.def_bindings.specs.declared.bindings.EdgeTo.{EdgeTo}
use Rattle.def_bindings.specs.declared.bindings.Namespace.{Namespace}
use Rattle.def_bindings.specs.declared.bindings.Namespace.TheVariants.{Types, Values, Macros}
use Rattle.def_bindings.specs.declared.bindings.Slot.{Slot}
use Rattle.def_bindings.specs.declared.bindings.Slot.TheVariants.{Named, Unnamed}
use Rattle.def_bindings.specs.declared.visibility.Visibility.{Visibility}
use Rattle.def_bindings.specs.Closure.{IsBound}
use Rattle.def_bindings.specs.Content.{Content, is_bound, is_listed, is_name, is_namespace, without_binding, without_name}
use Rattle.def_bindings.specs.IdLaws.{name-eq, name-refl, same_module_equal}
use Rattle.def_bindings.specs.Order.{Order}
use Rattle.def_bindings.specs.Puts.{held}
use Rattle.def_globs.specs.Raised.{IsRaisedAt}
use Rattle.def_modules.specs.MapState.{MapState}
use Rattle.def_rules.specs.Globs.{Targets}
use Rattle.def_rules.specs.ProcMacros.{is_function}
use Rattle.def_rules.specs.State.{ImportDirective}
use Rattle.def_laws.specs.Own.{AreOwn}
use Rattle.def_laws.specs.Sound.{AreSound, order_in}

-- what is bound in some namespace is bound
some_bound : (f : ModuleId → Name → Namespace → Option (Binding Visibility)) (m : ModuleId) (x : Name) (n : Namespace) (b : Binding Visibility) → f m x n ≡ Some b → is_bound f m x ≡ true
some_bound f m x Types b is = or_left (is_some (f m x Types)) _ (ap is_some is)
some_bound f m x Values b is = or_right (is_some (f m x Types)) _ (or_left (is_some (f m x Values)) _ (ap is_some is))
some_bound f m x Macros b is = or_right (is_some (f m x Types)) _ (or_right (is_some (f m x Values)) (is_some (f m x Macros)) (ap is_some is))

-- a name is listed still where another one is taken out
still_listed : (names : List Name) (name x : Name) → is_name name x ≡ false → is_listed names x ≡ true → is_listed (without_name names name) x ≡ true
still_listed [] name x apart h = h
still_listed (y ∷ ys) name x apart h =
    elim (cases_Bool (is_name name y)) [
      | inl gone ↦ rw gone (elim (or_cases (is_name x y) (is_listed ys x) h) [
        | inl here ↦ absurd (let wrong : false ≡ true = sym apart ∙ subst (λ z. is_name name z ≡ true) (sym (name-eq x y here)) gone in cc)
        | inr later ↦ still_listed ys name x apart later
      ])
      | inr stays ↦ rw stays (elim (or_cases (is_name x y) (is_listed ys x) h) [
        | inl here ↦ or_left (is_name x y) _ here
        | inr later ↦ or_right (is_name x y) _ (still_listed ys name x apart later)
      ])
    ]

module _ (c : Content Visibility) (at : ModuleId) (name : Name) (ns : Namespace) where
  abbrev left : Content Visibility
  left = without_binding c at name ns

  -- what is bound still was bound before
  pub bound_earlier : (m : ModuleId) (x : Name) (n : Namespace) (b : Binding Visibility) → left.binding m x n ≡ Some b → c.binding m x n ≡ Some b
  bound_earlier m x n b h = by (is_same_module at m && (is_name name x && is_namespace ns n)) h
    where
      by : (here : Bool) → cond here None (c.binding m x n) ≡ Some b → c.binding m x n ≡ Some b
      by true is = absurd (cc is)
      by false is = is

  -- so at each slot
  pub held_earlier : (m : ModuleId) (slot : Slot) (b : Binding Visibility) → held left m slot ≡ Some b → held c m slot ≡ Some b
  held_earlier m (Named x n) b h = bound_earlier m x n b h
  held_earlier m (Unnamed t) b h = h

  -- at another place all is as it was
  pub bound_elsewhere : (m : ModuleId) (x : Name) (n : Namespace) → (is_same_module at m && (is_name name x && is_namespace ns n)) ≡ false → left.binding m x n ≡ c.binding m x n
  bound_elsewhere m x n apart = ap (λ here. cond here None (c.binding m x n)) apart

  -- each name that is bound is listed still
  listed_still : ((m : ModuleId) (x : Name) (n : Namespace) (b : Binding Visibility) → c.binding m x n ≡ Some b → is_listed (c.names m) x ≡ true)
      → (m : ModuleId) (x : Name) (n : Namespace) (b : Binding Visibility) → left.binding m x n ≡ Some b → is_listed (left.names m) x ≡ true
  listed_still listed m x n b h =
      elim (cases_Bool (is_same_module at m)) [
        | inr other ↦ rw other (listed m x n b (bound_earlier m x n b h))
        | inl same ↦
            let is_m : at ≡ m = same_module_equal at m same in
            let was : is_listed (c.names at) x ≡ true = subst (λ z. is_listed (c.names z) x ≡ true) (sym is_m) (listed m x n b (bound_earlier m x n b h)) in
            rw same (elim (cases_Bool (is_bound left.binding at name)) [
              | inl bound ↦ ap (λ k. is_listed (cond k (c.names at) (without_name (c.names at) name)) x) bound ∙ was
              | inr none ↦ ap (λ k. is_listed (cond k (c.names at) (without_name (c.names at) name)) x) none ∙ elim (cases_Bool (is_name name x)) [
                | inl it ↦ absurd (let wrong : false ≡ true = sym none ∙ some_bound left.binding at name n b (subst (λ z. left.binding z name n ≡ Some b) (sym is_m) (subst (λ z. left.binding m z n ≡ Some b) (sym (name-eq name x it)) h)) in cc)
                | inr apart ↦ still_listed (c.names at) name x apart was
              ]
            ])
      ]

  -- a table is of its map alone still
  pub own_taken : {m : MapState} {targets : Targets} {q : List ImportDirective} → AreOwn m targets c q → AreOwn m targets left q
  own_taken own = record {
    even = own.even;
    lower = own.lower;
    imports = own.imports;
    bound = λ n slot h. own.bound n slot (h.0, held_earlier n slot h.0 h.1);
    edges = own.edges;
    globs = λ n x k glob h. own.globs n x k glob (h.0, bound_earlier n x k h.0 h.1, h.2);
    listed = listed_still own.listed;
  }

  -- names stay sound, where the module is left out
  pub sound_taken : {left_out : ModuleId → Bool} {m : MapState} {targets : Targets} → left_out at ≡ true → AreSound left_out m targets c → AreSound left_out m targets left
  sound_taken {left_out = left_out} {m = m} {targets = targets} out sound = record {
    closed = λ source index edge slot b stands kept there seen.
        let bound = sound.closed source index edge slot b stands kept (held_earlier source slot b there) seen in (bound.0, held_else edge.importer slot kept ∙ bound.1);
    coherent = λ importer x n b glob target there by known kept kept'.
        let follows = sound.coherent importer x n b glob target (bound_earlier importer x n b there) by known kept kept' in (follows.0, held_else target (Named x n) kept' ∙ follows.1, follows.2);
    begins = sound.begins;
    led = λ importer x n b glob target there by known kept kept'. sound.led importer x n b glob target (bound_earlier importer x n b there) by known kept kept';
    single = sound.single;
  }
    where
      apart : (n : ModuleId) → left_out n ≡ false → is_same_module at n ≡ false
      apart n kept = elim (cases_Bool (is_same_module at n)) [
        | inl same ↦ absurd (let wrong : true ≡ false = sym out ∙ ap left_out (same_module_equal at n same) ∙ kept in cc)
        | inr other ↦ other
      ]

      held_else : (n : ModuleId) (slot : Slot) → left_out n ≡ false → held left n slot ≡ held c n slot
      held_else n (Named x k) kept = bound_elsewhere n x k (rw (apart n kept) refl)
      held_else n (Unnamed t) kept = refl

  -- a place stays raised
  pub raised_taken : (o : Order Visibility) (importer : ModuleId) (slot : Slot) → IsRaisedAt o c importer slot → IsRaisedAt o left importer slot
  raised_taken o importer slot raised source index edge stands to b there glob holds seen known by same =
      raised source index edge stands to b there glob (held_earlier source slot b holds) seen (held_earlier edge.importer slot there known) by same

-- what is a function is that function
pub is_that_function : (function : FunctionId) (d : Def) → is_function function d ≡ true → d ≡ def.Function function
is_that_function function (def.Function f) is = let by : ℕ → Def = λ n. def.Function (record { 0 = n }) in ap by (sym (eqb-true function.0 f.0 is))
is_that_function function (def.Module m) is = absurd (cc is)
is_that_function function (def.Struct id) is = absurd (cc is)
is_that_function function (def.Union id) is = absurd (cc is)
is_that_function function (def.Enum id) is = absurd (cc is)
is_that_function function (def.Variant id) is = absurd (cc is)
is_that_function function (def.Const id) is = absurd (cc is)
is_that_function function (def.Static id) is = absurd (cc is)
is_that_function function (def.Trait id) is = absurd (cc is)
is_that_function function (def.TypeAlias id) is = absurd (cc is)
is_that_function function (def.Builtin n) is = absurd (cc is)
is_that_function function (def.Macro m) is = absurd (cc is)
