-- Along any run modules bind only within the map, and only recorded globs have edges and bindings.
use Rattle.std.proofs.Common.{◌≡◌, ◌⊎◌, ℕ, true, false, cond, List, [], ◌∷◌, ◌++◌, slice_get, Option, Some, None, Contains, refl, sym, ap, ◌∙◌, subst, inl, inr}
use Rattle.std.proofs.lemmas.Bool.{cases_Bool, or_left, or_right}
use Rattle.std.proofs.lemmas.List.Folds.{list_any-append}
use Rattle.tree_ids.specs.declared.name.Name.{Name}
use Rattle.def_ids.specs.declared.ids.GlobId.{GlobId}
use Rattle.def_ids.specs.declared.ids.ModuleId.{ModuleId}
use Rattle.def_ids.specs.Ids.{is_same_module}
use Rattle.def_bindings.specs.declared.bindings.Binding.{Binding}
use Rattle.def_bindings.specs.declared.bindings.EdgeTo.{EdgeTo}
use Rattle.def_bindings.specs.declared.bindings.Entry.{Entry}
use Rattle.def_bindings.specs.declared.bindings.Namespace.{Namespace}
use Rattle.def_bindings.specs.declared.bindings.Slot.{Slot}
use Rattle.def_bindings.specs.declared.bindings.Slot.TheVariants.{Named, Unnamed}
use Rattle.def_bindings.specs.declared.visibility.Visibility.{Visibility}
use Rattle.def_bindings.specs.Closure.{IsBound}
use Rattle.def_bindings.specs.Content.{Content, is_listed, is_name, with_binding, with_name}
use Rattle.def_bindings.specs.HeldLaws.{cases_place}
use Rattle.def_bindings.specs.IdLaws.{name-eq, name-refl, same_module_equal}
use Rattle.def_bindings.specs.Order.{Order}
use Rattle.def_bindings.specs.Puts.{answer, copied, edge_to, fitted, held, joined, offered, put_at, put_entry, settled, slot_of, written}
use Rattle.def_modules.specs.MapState.{MapState}
use Rattle.def_globs.proofs.BringingLaws.{globs_puts}
use Rattle.def_globs.proofs.CopyingLaws.{copy_cases, edges_copied}
use Rattle.def_globs.specs.Globs.{with_recorded}
use Rattle.def_globs.proofs.LedLaws.{found_importer}
use Rattle.def_globs.proofs.ListLaws.{first_in, only_in}
use Rattle.def_globs.proofs.PuttingLaws.{edges_put, put_cases}
use Rattle.def_globs.proofs.RecordingLaws.{origin_copies}
use Rattle.def_globs.specs.Waves as Waves
use Rattle.def_globs.specs.Waves.{def_at, def_or}
use Rattle.def_globs.proofs.AddingLaws.{in_with_edge}
use Rattle.def_laws.specs.Own.{AreOwn, AreOwnTasks, IsOwn, IsOwnTask, IsRecorded, IsRecordedFor}
use Rattle.def_laws.specs.Roles.{Role, puts, links, takes, stays, place_of, role_of}
use Rattle.def_rules.specs.Globs.{Targets}
use Rattle.def_rules.specs.State.{ImportDirective, Task, Put}
use Rattle.def_laws.proofs.LargerLaws.{own_larger}
use Rattle.def_laws.proofs.SoundLaws.{IsLarger}

-- globs that were recorded stay so
abbrev pub StayRecorded : Targets → Targets → Type 0
StayRecorded targets targets' = (glob : GlobId) → IsRecorded targets glob → IsRecorded targets' glob

module _ (m m' : MapState) (targets targets' : Targets) (larger : IsLarger m m') (stay : StayRecorded targets targets') where
  task_stays : (task : Task) → IsOwnTask m targets task → IsOwnTask m' targets' task
  task_stays task own = (own_larger m m' (place_of task) larger own.0, by_role (role_of task) own.1)
    where
      by_role : (role : Role) → IsRecordedFor targets role → IsRecordedFor targets' role
      by_role (puts at entry) recorded = λ g by. stay g (recorded g by)
      by_role (links source edge) recorded = stay edge.glob recorded
      by_role (takes at name function) recorded = tt
      by_role stays recorded = tt

  -- tasks stay within a map that grows
  pub tasks_stay : (tasks : List Task) → AreOwnTasks m targets tasks → AreOwnTasks m' targets' tasks
  tasks_stay [] own = tt
  tasks_stay (task ∷ tasks) own = (task_stays task own.0, tasks_stay tasks own.1)

  -- so does a table, with the imports that are left or that a module of the map has
  pub own_stays : (c : Content Visibility) (q q' : List ImportDirective) → ((d : ImportDirective) → Contains q' d → Contains q d ⊎ IsOwn m d.import.scope)
      → AreOwn m targets c q → AreOwn m' targets' c q'
  own_stays c q q' left own = record {
    even = larger.even own.even;
    lower = larger.lower own.lower;
    imports = λ d h. own_larger m m' d.import.scope larger (elim (left d h) [ inl old ↦ own.imports d old | inr new ↦ new ]);
    bound = λ at slot b. own_larger m m' at larger (own.bound at slot b);
    edges = λ source index edge h. let e = own.edges source index edge h in (own_larger m m' edge.importer larger e.0, stay edge.glob e.1);
    globs = λ at name ns glob h. stay glob (own.globs at name ns glob h);
    listed = own.listed;
  }

-- tasks in a row
pub own_both : (m : MapState) (targets : Targets) (xs ys : List Task) → AreOwnTasks m targets xs → AreOwnTasks m targets ys → AreOwnTasks m targets (xs ++ ys)
own_both m targets [] ys h k = k
own_both m targets (x ∷ xs) ys h k = (h.0, own_both m targets xs ys h.1 k)

pub own_first : (m : MapState) (targets : Targets) (xs ys : List Task) → AreOwnTasks m targets (xs ++ ys) → AreOwnTasks m targets xs
own_first m targets [] ys h = tt
own_first m targets (x ∷ xs) ys h = (h.0, own_first m targets xs ys h.1)

pub own_last : (m : MapState) (targets : Targets) (xs ys : List Task) → AreOwnTasks m targets (xs ++ ys) → AreOwnTasks m targets ys
own_last m targets [] ys h = h
own_last m targets (x ∷ xs) ys h = own_last m targets xs ys h.1

-- A table that is written

-- each name that is bound is listed
abbrev AreListed : Content Visibility → Type 0
AreListed c = (at : ModuleId) (name : Name) (ns : Namespace) (b : Binding Visibility) → c.binding at name ns ≡ Some b → is_listed (c.names at) name ≡ true

named_last : (names : List Name) (x : Name) → is_listed (with_name names x) x ≡ true
named_last names x =
    elim (cases_Bool (is_listed names x)) [
      | inl there ↦ ap (λ b. is_listed (cond b names (names ++ x ∷ [])) x) there ∙ there
      | inr new ↦
          ap (λ b. is_listed (cond b names (names ++ x ∷ [])) x) new
          ∙ list_any-append (is_name x) names (x ∷ [])
          ∙ or_right (is_listed names x) _ (or_left (is_name x x) false (name-refl x))
    ]

named_still : (names : List Name) (x y : Name) → is_listed names y ≡ true → is_listed (with_name names x) y ≡ true
named_still names x y h =
    elim (cases_Bool (is_listed names x)) [
      | inl there ↦ ap (λ b. is_listed (cond b names (names ++ x ∷ [])) y) there ∙ h
      | inr new ↦ ap (λ b. is_listed (cond b names (names ++ x ∷ [])) y) new ∙ list_any-append (is_name y) names (x ∷ []) ∙ or_left (is_listed names y) _ h
    ]

module _ (c : Content Visibility) (at : ModuleId) (listed : AreListed c) where
  listed_named : (name : Name) (ns : Namespace) (b : Binding Visibility) → AreListed (with_binding c at name ns b)
  listed_named name ns b m x n v h =
      elim (cases_Bool (is_same_module at m)) [
        | inr other ↦
            let old : c.binding m x n ≡ Some v = rw other at h in
            rw other (listed m x n v old)
        | inl same ↦
            let is_m : at ≡ m = same_module_equal at m same in
            elim (cases_Bool (is_name name x)) [
              | inl here ↦ rw same (subst (λ y. is_listed (with_name (c.names at) name) y ≡ true) (name-eq name x here) (named_last (c.names at) name))
              | inr apart ↦
                  let old : c.binding m x n ≡ Some v = rw (same, apart) at h in
                  rw same (named_still (c.names at) name x (subst (λ z. is_listed (c.names z) x ≡ true) (sym is_m) (listed m x n v old)))
            ]
      ]

  listed_written : (slot : Slot) (b : Option (Binding Visibility)) → AreListed (written c at slot b)
  listed_written slot None = listed
  listed_written (Named name ns) (Some b) = listed_named name ns b
  listed_written (Unnamed t) (Some b) = listed

listed_put : (o : Order Visibility) (at : ModuleId) (slot : Option Slot) (offer : Binding Visibility) (c : Content Visibility) → AreListed c → AreListed (put_at o at slot offer c)
listed_put o at None offer c listed = listed
listed_put o at (Some slot) offer c listed = listed_written c at listed slot (settled o (held c at slot) (fitted slot offer))

bound_before : (o : Order Visibility) (at : ModuleId) (slot : Option Slot) (offer : Binding Visibility) (c : Content Visibility) (n : ModuleId) (y : Slot) → IsBound (put_at o at slot offer c) n y → IsBound c n y ⊎ (n ≡ at)
bound_before o at None offer c n y h = inl h
bound_before o at (Some slot) offer c n y h =
    elim (put_cases o at slot offer c) [
      | inl still ↦ inl (subst (λ d. IsBound d n y) still.1 h)
      | inr placed ↦ elim (cases_place at slot n y) [
        | inl here ↦ inr (sym here.0)
        | inr apart ↦ inl (h.0, sym (placed.1.elsewhere n y apart) ∙ h.1)
      ]
    ]

module _ (m : MapState) (targets : Targets) (o : Order Visibility) (c : Content Visibility) (q : List ImportDirective) (own : AreOwn m targets c q) where
  -- an entry is put in a module of the map
  pub own_put : (at : ModuleId) (entry : Entry Visibility) → IsOwnTask m targets (Put at entry) → AreOwn m targets (put_entry o at entry c) q
  own_put at entry here = record {
    even = own.even;
    lower = own.lower;
    imports = own.imports;
    bound = λ n slot h. elim (bound_before o at (slot_of entry) (offered entry) c n slot h) [ inl old ↦ own.bound n slot old | inr new ↦ subst (λ x. IsOwn m x) (sym new) here.0 ];
    edges = λ source index edge h. own.edges source index edge (ap (λ (es : ModuleId → List (EdgeTo Visibility)). slice_get (es source) index) (sym (edges_put o at (slot_of entry) (offered entry) c)) ∙ h);
    globs = λ n name ns glob h. elim (globs_puts o at (entry ∷ []) c n name ns glob h) [
      | inl old ↦ own.globs n name ns glob old
      | inr new ↦ here.1 glob (ap (λ (e : Entry Visibility). e.origin) (sym (only_in entry new.1.entry new.1.listed)) ∙ new.1.by)
    ];
    listed = listed_put o at (slot_of entry) (offered entry) c own.listed;
  }

  -- an edge is added to one
  pub own_edge : (source : ModuleId) (edge : EdgeTo Visibility) → IsOwn m edge.importer × IsRecorded targets edge.glob → AreOwn m targets (with_recorded o c source edge) q
  own_edge source edge here = record {
    even = own.even;
    lower = own.lower;
    imports = own.imports;
    bound = λ n slot h. own.bound n slot (h.0, by_slot n slot h.0 h.1);
    edges = λ n index e h. elim (in_with_edge c source (joined o (edge_to (c.edges source) edge.importer) edge) n index e h) [
      | inl old ↦ own.edges n index e old
      | inr new ↦ subst (λ x. IsOwn m x.importer × IsRecorded targets x.glob) (sym new.1) (beside (edge_to (c.edges source) edge.importer) refl)
    ];
    globs = own.globs;
    listed = own.listed;
  }
    where
      by_slot : (n : ModuleId) (slot : Slot) (b : Binding Visibility) → held (with_recorded o c source edge) n slot ≡ Some b → held c n slot ≡ Some b
      by_slot n (Named name ns) b h = h
      by_slot n (Unnamed t) b h = h

      beside : (there : Option (EdgeTo Visibility)) → edge_to (c.edges source) edge.importer ≡ there → (let e = joined o there edge in IsOwn m e.importer × IsRecorded targets e.glob)
      beside None is = here
      beside (Some old) is = let at = found_importer (c.edges source) edge.importer old is in own.edges source at.1.0 old at.1.1

  -- something is copied along an edge
  pub own_copied : (source : ModuleId) (index : ℕ) (edge : EdgeTo Visibility) (slot : Slot) → slice_get (c.edges source) index ≡ Some edge → AreOwn m targets (copied o source edge slot c) q
  own_copied source index edge slot there = record {
    even = own.even;
    lower = own.lower;
    imports = own.imports;
    bound = λ n y h. elim (copy_cases o source edge slot c) [
      | inl still ↦ own.bound n y (subst (λ d. IsBound d n y) still.1.same h)
      | inr moved ↦ elim (cases_place edge.importer slot n y) [
        | inl at ↦ subst (λ x. IsOwn m x) at.0 (own.edges source index edge there).0
        | inr apart ↦ own.bound n y (h.0, sym (moved.1.elsewhere n y apart) ∙ h.1)
      ]
    ];
    edges = λ n i e h. own.edges n i e (ap (λ (es : ModuleId → List (EdgeTo Visibility)). slice_get (es n) i) (sym (edges_copied o source edge slot c)) ∙ h);
    globs = λ n name ns glob h. elim (origin_copies o (slot ∷ []) (def_at c source) one n name ns glob h) [
      | inl old ↦ own.globs n name ns glob old
      | inr led ↦ subst (IsRecorded targets) led.1.1.3 (own.edges led.0 led.1.0 led.1.1.0 led.1.1.1).1
    ];
    listed = listed_written c edge.importer own.listed slot (answer o edge slot (held c source slot) (held c edge.importer slot));
  }
    where
      one : Waves.Copies o (slot ∷ []) (def_at c source) c (copied o source edge slot c)
      one = Waves.more source edge slot index Waves.none there (first_in slot []) (λ b h. ap def_or (sym h))
