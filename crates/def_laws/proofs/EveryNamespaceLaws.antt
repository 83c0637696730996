-- Each namespace of a recorded import is bound at the end of a run.
use Rattle.std.proofs.Common.{◌≡◌, ◌∙◌, ℕ, inl, inr, Bool, true, false, ◌&&◌, ◌||◌, not, is_some, List, [], ◌∷◌, ◌++◌, Contains, IsPermutation, refl, sym, ap, subst, append-nil, arith}
use Rattle.std.specs.Prelude.{IsSome}
use Rattle.std.proofs.lemmas.Bool.{and_parts, or_parts}
use Rattle.std.proofs.lemmas.List.Elements.{Contains-append_left, Contains-append_right, Contains-append_cases}
use Rattle.std.proofs.lemmas.List.Sorted.{Contains-permutation, IsPermutation-sym}
use Rattle.tree_ids.specs.declared.name.Name.{Name}
use Rattle.def_ids.specs.declared.ids.FunctionId.{FunctionId}
use Rattle.def_ids.specs.declared.ids.ModuleId.{ModuleId}
use Rattle.def_bindings.specs.declared.bindings.EdgeTo.{EdgeTo}
use Rattle.def_bindings.specs.declared.bindings.Entry.{Entry}
use Rattle.def_bindings.specs.declared.bindings.Namespace.{Namespace}
use Rattle.def_bindings.specs.declared.bindings.Namespace.TheVariants.{Types, Values, Macros}
use Rattle.def_bindings.specs.declared.bindings.Slot.TheVariants.{Named}
use Rattle.def_bindings.specs.declared.visibility.Visibility.{Visibility}
use Rattle.def_bindings.specs.Closure.{IsBound}
use Rattle.def_bindings.specs.Content.{Content, without_binding}
use Rattle.def_bindings.specs.Puts.{glob_of, put_entry}
use Rattle.def_bindings.specs.PutsLaws.{bound_stays-copied}
use Rattle.def_paths.specs.declared.path_result.ResolvePathResult.{ResolvePathResult}
use Rattle.def_sources.specs.declared.per_ns.PerNs.{PerNs}
use Rattle.def_oracle.specs.Oracle.{Oracle}
use Rattle.def_sources.specs.PerNs.{in_namespace}
use Rattle.def_globs.specs.Globs.{with_recorded}
use Rattle.def_rules.specs.Imports.{answer_now, given_set, is_extended, is_foreign, is_full, is_missing}
use Rattle.def_rules.specs.Recording.{ImportStep, NoneReady, after_import}
use Rattle.def_rules.specs.Settled.{HasEveryNamespace}
use Rattle.def_rules.specs.Calls.{inner_recorded}
use Rattle.def_rules.specs.State.{State, Effect, Event, Recorded, NsSet, Import, ImportDirective, Moment, Task, Put, Rearranges, TakeOut, TookOut, only, order, root, AddEdge}
use Rattle.def_rules.specs.Steps.{Copies, Reaches, Step, put_event}
use Rattle.def_rules.specs.Targets.{leaves_out}
use Rattle.def_laws.proofs.FootprintLaws.{Footprint}
use Rattle.def_laws.proofs.MovesLaws.{AreStill, Move, putting, linking, taking, doing, calling, copying, ordering, sorting, recording, move_of}
use Rattle.def_laws.proofs.TurnsLaws.{notes_footprint, waiting_with}
use Rattle.def_laws.proofs.RunsLaws.{kept_along}
use Rattle.def_laws.proofs.LeftOutLaws.{LeavesAlike, alike_refl, leaves_alike, move_alike}
use Rattle.def_laws.proofs.ComingLaws.{Covers, HasSet, bound_now, covers-kept, has_ns, keeps_coming, put_keeps, take_keeps, unrecorded, still_ahead, edge_ahead}
use Rattle.def_laws.proofs.AddedLaws.{none_added, reordered}
use Rattle.def_laws.proofs.ListLaws.{contains_cases}
use Rattle.def_laws.proofs.RecordedLaws.{all_ahead, covers-recorded}

-- what was recorded is covered, at a moment
abbrev CoversAt : (ModuleId → Bool) → Moment → Type 0
CoversAt left_out m = Covers left_out m.state.imports m.state.content m.tasks m.events

-- at a moment with these tasks
covers-tasks : (left_out : ModuleId → Bool) (a : Moment) (tasks : List Task) → a.tasks ≡ tasks → CoversAt left_out a → Covers left_out a.state.imports a.state.content tasks a.events
covers-tasks left_out a tasks same all = subst (λ l. Covers left_out a.state.imports a.state.content l a.events) same all

-- what is done beside puts and edges leaves all that is covered
covers-footprint : (left_out : ModuleId → Bool) (s : State) (gone rest : List Task) (scope : ModuleId) (depth : ℕ) (effect : Effect) (events : List Event) → AreStill gone → Footprint s scope depth effect → Covers left_out s.imports s.content (gone ++ rest) events
    → Covers left_out effect.state.imports effect.state.content (effect.tasks ++ rest) (events ++ effect.events)
covers-footprint left_out s gone rest scope depth effect events still foot all =
    subst (λ c. Covers left_out effect.state.imports c (effect.tasks ++ rest) (events ++ effect.events)) (sym foot.content)
    (subst (λ es. Covers left_out effect.state.imports s.content (effect.tasks ++ rest) (events ++ es)) (sym foot.events)
    (subst (λ es. Covers left_out effect.state.imports s.content (effect.tasks ++ rest) es) (sym (append-nil events))
    (covers-kept left_out s.imports effect.state.imports s.content s.content (gone ++ rest) (effect.tasks ++ rest) events events
    (keeps_coming left_out s.content s.content (gone ++ rest) (effect.tasks ++ rest) (λ at name ns bound. bound) (λ at entry h. still_ahead gone rest effect.tasks still at entry h))
    foot.imports (λ e h. h) (λ p h. h) all)))

covers-put : (left_out : ModuleId → Bool) (s : State) (place : ModuleId) (entry : Entry Visibility) (rest : List Task) (events : List Event) → Covers left_out s.imports s.content (Put place entry ∷ rest) events
    → Covers left_out s.imports (put_entry (order s) place entry s.content) rest (events ++ put_event place entry)
covers-put left_out s place entry rest events all =
    covers-kept left_out s.imports s.imports s.content (put_entry (order s) place entry s.content) (Put place entry ∷ rest) rest events (events ++ put_event place entry) (put_keeps left_out (order s) place entry s.content rest)
    (none_added s.imports) (λ e h. Contains-append_left events (put_event place entry) e h)
    (λ p h. elim (Contains-append_cases events (put_event place entry) (Recorded p false) h) [
      | inl before ↦ before
      | inr now ↦ absurd (unrecorded place entry p false (glob_of entry.origin) entry.name now)
    ]) all

covers-edge : (left_out : ModuleId → Bool) (s : State) (source : ModuleId) (edge : EdgeTo Visibility) (rest : List Task) (events : List Event) → Covers left_out s.imports s.content (AddEdge source edge ∷ rest) events
    → Covers left_out s.imports (with_recorded (order s) s.content source edge) rest (events ++ [])
covers-edge left_out s source edge rest events all =
    subst (λ es. Covers left_out s.imports (with_recorded (order s) s.content source edge) rest es) (sym (append-nil events))
    (covers-kept left_out s.imports s.imports s.content (with_recorded (order s) s.content source edge) (AddEdge source edge ∷ rest) rest events events
    (keeps_coming left_out s.content (with_recorded (order s) s.content source edge) (AddEdge source edge ∷ rest) rest (λ at name ns bound. bound) (λ at entry h. edge_ahead source edge rest at entry h))
    (none_added s.imports) (λ e h. h) (λ p h. h) all)

covers-copied : (left_out : ModuleId → Bool) (s : State) (content : Content Visibility) (tasks : List Task) (events : List Event) → Copies s content → Covers left_out s.imports s.content tasks events → Covers left_out s.imports content tasks events
covers-copied left_out s content tasks events copy all =
    covers-kept left_out s.imports s.imports s.content content tasks tasks events events
    (keeps_coming left_out s.content content tasks tasks (λ at name ns bound. subst (λ c. IsBound c at (Named name ns)) (sym copy.after) (bound_stays-copied (order s) copy.source copy.edge copy.slot s.content at (Named name ns) bound)) (λ at entry h. h))
    (none_added s.imports) (λ e h. h) (λ p h. h) all

covers-rearranged : (left_out : ModuleId → Bool) (s t : State) (tasks : List Task) (events : List Event) → Rearranges s t → Covers left_out s.imports s.content tasks events → Covers left_out t.imports t.content tasks events
covers-rearranged left_out s t tasks events same all =
    covers-kept left_out s.imports t.imports s.content t.content tasks tasks events events
    (keeps_coming left_out s.content t.content tasks tasks (λ at name ns bound. subst (λ (x : State). IsBound x.content at (Named name ns)) (sym same.rest) bound) (λ at entry h. h))
    (reordered s.imports t.imports same.imports) (λ e h. h) (λ p h. h) all

covers-import : (left_out : ModuleId → Bool) (oracle : Oracle) (s : State) (effect : Effect) (events : List Event) → ImportStep oracle s effect → Covers left_out s.imports s.content [] events
    → Covers left_out effect.state.imports effect.state.content (effect.tasks ++ []) (events ++ effect.events)
covers-import left_out oracle s effect events step all =
    let d : ImportDirective = step.directive in
    let answer : ResolvePathResult = answer_now oracle s d.import in
    let back : IsPermutation (d ∷ step.rest) s.imports = IsPermutation-sym s.imports (d ∷ step.rest) step.stands in
    let stands : Contains s.imports d = Contains-permutation (d ∷ step.rest) s.imports d back (Contains-append_left (d ∷ []) step.rest d (0, omega arith, refl)) in
    subst (λ (e : Effect). Covers left_out e.state.imports e.state.content (e.tasks ++ []) (events ++ e.events)) (sym step.is)
    (covers-recorded left_out d.import answer _ (all_ahead oracle (after_import s d step.rest answer) d.import answer) d.recorded s.imports step.rest s.content events (all.left d stands)
    (λ x h. elim (contains_cases d x step.rest (Contains-permutation s.imports (d ∷ step.rest) x step.stands h)) [
      | inl same ↦ inl (ap (λ (y : ImportDirective). y.import) same)
      | inr others ↦ inr others
    ])
    (λ x h. Contains-permutation (d ∷ step.rest) s.imports x back (Contains-append_right (d ∷ []) step.rest x h)) all)

covers-taken : (left_out : ModuleId → Bool) (s : State) (at : ModuleId) (name : Name) (function : FunctionId) (rest : List Task) (events : List Event) → left_out at ≡ true → Covers left_out s.imports s.content (TakeOut at name function ∷ rest) events
    → Covers left_out s.imports (without_binding s.content at name Values) rest (events ++ TookOut at name function ∷ [])
covers-taken left_out s at name function rest events out all =
    covers-kept left_out s.imports s.imports s.content (without_binding s.content at name Values) (TakeOut at name function ∷ rest) rest events (events ++ TookOut at name function ∷ []) (take_keeps left_out s.content at name Values function rest out)
    (none_added s.imports) (λ e h. Contains-append_left events (TookOut at name function ∷ []) e h)
    (λ p h. elim (Contains-append_cases events (TookOut at name function ∷ []) (Recorded p false) h) [
      | inl before ↦ before
      | inr now ↦ elim (contains_cases (TookOut at name function) (Recorded p false) [] now) [
        | inl same ↦ absurd (cc same)
        | inr none ↦ let wrong = none.1 in absurd (omega arith)
      ]
    ]) all

-- what was recorded is covered, where the same modules are left out as at the start
record CoversSame (start : State) (m : Moment) : Type 0 where
  alike : LeavesAlike start m.state
  covers : CoversAt (leaves_out start) m

module _ {oracle : Oracle} (start : State) where
  covers-move : (a b : Moment) → Move oracle a b → CoversSame start a → CoversAt (leaves_out start) b
  covers-move a b (putting place entry rest first is) all = subst (CoversAt (leaves_out start)) (sym is) (covers-put (leaves_out start) a.state place entry rest a.events (covers-tasks (leaves_out start) a _ first all.covers))
  covers-move a b (linking source edge rest first is) all = subst (CoversAt (leaves_out start)) (sym is) (covers-edge (leaves_out start) a.state source edge rest a.events (covers-tasks (leaves_out start) a _ first all.covers))
  covers-move a b (taking at name function rest held first left there of is) all =
      subst (CoversAt (leaves_out start)) (sym is) (covers-taken (leaves_out start) a.state at name function rest a.events (sym (leaves_alike all.alike at) ∙ left) (covers-tasks (leaves_out start) a _ first all.covers))
  covers-move a b (doing gone rest scope depth macros expansions deferred inner effect first still own fewer foot is) all =
      subst (CoversAt (leaves_out start)) (sym is) (covers-footprint (leaves_out start) (waiting_with a.state macros expansions deferred inner) gone rest scope depth effect a.events still foot (covers-tasks (leaves_out start) a _ first all.covers))
  covers-move a b (calling idle is) all =
      subst (CoversAt (leaves_out start)) (sym is)
      (covers-footprint (leaves_out start) (record a.state { inner_calls = [] }) [] [] (root a.state.map) 0 (only (inner_recorded a.state)) a.events tt (notes_footprint a.state (root a.state.map) 0) (covers-tasks (leaves_out start) a [] idle all.covers))
  covers-move a b (copying content copy is) all = subst (CoversAt (leaves_out start)) (sym is) (covers-copied (leaves_out start) a.state content a.tasks a.events copy all.covers)
  covers-move a b (ordering macros same is) all = subst (CoversAt (leaves_out start)) (sym is) all.covers
  covers-move a b (sorting state same is) all = subst (CoversAt (leaves_out start)) (sym is) (covers-rearranged (leaves_out start) a.state state a.tasks a.events same all.covers)
  covers-move a b (recording effect idle step is) all = subst (CoversAt (leaves_out start)) (sym is) (covers-import (leaves_out start) oracle a.state effect a.events step (covers-tasks (leaves_out start) a [] idle all.covers))

  covers-step : (a b : Moment) → Step oracle a b → CoversSame start a → CoversSame start b
  covers-step a b step all =
      let alike = move_alike a b (move_of a b step) in
      record { alike = record { is_proc_macro = alike.is_proc_macro ∙ all.alike.is_proc_macro; id = alike.id ∙ all.alike.id }; covers = covers-move a b (move_of a b step) all }

covers_nothing : (left_out : ModuleId → Bool) (content : Content Visibility) (tasks : List Task) → Covers left_out [] content tasks []
covers_nothing left_out content tasks =
    record {
      left = λ d stands. let none = stands.1 in absurd (omega arith);
      recorded = λ p happened. let none = happened.1 in absurd (omega arith);
    }

-- The end

-- a set that is full has each namespace
full_has : (set : NsSet) (ns : Namespace) → is_full set ≡ true → has_ns set ns ≡ true
full_has set ns full = by_ns ns
  where
    first : (set.types ≡ true) × ((set.values && set.macros) ≡ true)
    first = and_parts set.types (set.values && set.macros) full

    by_ns : (k : Namespace) → has_ns set k ≡ true
    by_ns Types = first.0
    by_ns Values = (and_parts set.values set.macros first.1).0
    by_ns Macros = (and_parts set.values set.macros first.1).1

had : (given recorded : Bool) → (given && not recorded) ≡ false → given ≡ true → recorded ≡ true
had true true h g = refl
had true false h g = absurd cc
had false recorded h g = absurd cc

-- what is not extended has each namespace that is given
not_extended : (set given : NsSet) (ns : Namespace) → is_extended set given ≡ false → has_ns given ns ≡ true → has_ns set ns ≡ true
not_extended set given ns h there = by_ns ns there
  where
    rest : ((given.types && not set.types) ≡ false) × (((given.values && not set.values) || (given.macros && not set.macros)) ≡ false)
    rest = or_parts (given.types && not set.types) _ h

    last : ((given.values && not set.values) ≡ false) × ((given.macros && not set.macros) ≡ false)
    last = or_parts (given.values && not set.values) _ rest.1

    by_ns : (k : Namespace) → has_ns given k ≡ true → has_ns set k ≡ true
    by_ns Types is = had given.types set.types rest.0 is
    by_ns Values is = had given.values set.values last.0 is
    by_ns Macros is = had given.macros set.macros last.1 is

given_has : (found : PerNs) (ns : Namespace) → IsSome (in_namespace found ns) → has_ns (given_set found) ns ≡ true
given_has found Types there = there
given_has found Values there = there
given_has found Macros there = there

-- what is not ready though it is not missing gives nothing new
nothing_new : (missing foreign extended : Bool) → missing ≡ false → (not missing && (foreign || extended)) ≡ false → extended ≡ false
nothing_new false foreign extended is h = (or_parts foreign extended h).1
nothing_new true foreign extended is h = absurd cc

-- at the end the set of an import has each namespace that its path gives
set_has : (oracle : Oracle) (end : Moment) (p : Import) (ns : Namespace) → NoneReady oracle end.state → is_missing (answer_now oracle end.state p) ≡ false → IsSome (in_namespace (answer_now oracle end.state p).resolved_def ns)
    → (left_out : ModuleId → Bool) (has : HasSet left_out end.state.imports end.state.content end.tasks p) → has_ns has.set ns ≡ true
set_has oracle end p ns settled found there left_out has =
    let answer : ResolvePathResult = answer_now oracle end.state p in
    elim has.stays [
      | inl full ↦ full_has has.set ns full
      | inr stands ↦ not_extended has.set (given_set answer.resolved_def) ns
          (nothing_new (is_missing answer) (is_foreign answer) (is_extended has.set (given_set answer.resolved_def)) found (settled.none (record { import = p; recorded = has.set }) stands))
          (given_has answer.resolved_def ns there)
    ]

bound_is_some : (content : Content Visibility) (at : ModuleId) (name : Name) (ns : Namespace) → IsBound content at (Named name ns) → IsSome (content.binding at name ns)
bound_is_some content at name ns bound = ap is_some bound.1

-- where nothing is left to do and no import is ready, each namespace of each recorded import is bound, after a run from nothing
pub every_namespace_along : {oracle : Oracle} {a b : Moment} → Reaches oracle a b → a.events ≡ [] → a.state.imports ≡ [] → b.tasks ≡ [] → NoneReady oracle b.state → HasEveryNamespace oracle b
every_namespace_along {oracle} {a} {b} r none nothing done settled p name ns import found there kind =
    elim (all.covers.recorded p import.recorded) [
      | inl foreign ↦ absurd (import.own foreign)
      | inr has ↦ bound_is_some b.state.content p.scope name ns
          (bound_now (leaves_out a.state) b.state.content b.tasks p.scope name ns done (sym (leaves_alike all.alike p.scope) ∙ import.elsewhere) (has.each name ns import.name_bound kind (set_has oracle b p ns settled found there (leaves_out a.state) has)))
    ]
  where
    begins : CoversAt (leaves_out a.state) a
    begins = subst (λ es. Covers (leaves_out a.state) a.state.imports a.state.content a.tasks es) (sym none) (subst (λ ps. Covers (leaves_out a.state) ps a.state.content a.tasks []) (sym nothing) (covers_nothing (leaves_out a.state) a.state.content a.tasks))

    all : CoversSame a.state b
    all = kept_along {oracle = oracle} (CoversSame a.state) (covers-step {oracle = oracle} a.state) r (record { alike = alike_refl a.state; covers = begins })
