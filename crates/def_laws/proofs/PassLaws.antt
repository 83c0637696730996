-- A pass over the macros that wait, and the expansions that it leads to.
use Rattle.std.proofs.Common.{◌≡◌, ◌<◌, ◌≤◌, ◌+◌, ◌-◌, ◌*◌, ◌^◌, ℕ, zero, suc, Bool, true, false, cond, ◌||◌, nat_eq, nat_lt, List, [], ◌∷◌, ◌++◌, length, length-append, map, slice_get, Option, Some, None, Result, Ok, Err, Contains, refl, sym, ap, subst, ◌∙◌, append-nil, append_assoc, arith, inl, inr, if◌then◌else◌}
use Rattle.std.specs.Prelude.{sum_by, unwrap_or}
use Rattle.std.specs.Option.{option_map_or}
use Rattle.std.proofs.lemmas.Bool.{cases_lt}
use Rattle.std.proofs.lemmas.List.{map-append}
use Rattle.std.proofs.Math.Nat.{mul-le-mul_right, one-le-pow}
use Rattle.std.proofs.lemmas.List.Sums.{sum_by-append, sum_by-cons}
use Rattle.tree_ids.specs.declared.ids.FileAstId.{FileAstId}
use Rattle.tree_ids.specs.declared.ids.InFile.{InFile}
use Rattle.tree_ids.specs.declared.ids.MacroCallId.{MacroCallId}
use Rattle.tree_ids.specs.declared.ids.ModItemId.{ModItemId}
use Rattle.tree_ids.specs.declared.ids.SyntaxContext.{SyntaxContext}
use Rattle.item_tree.specs.declared.mod_path.ModPath.{ModPath}
use Rattle.tree_ids.specs.declared.name.Name.{Name}
use Rattle.item_tree.specs.Paths.{as_ident}
use Rattle.def_ids.specs.declared.ids.MapId.{MapId}
use Rattle.def_ids.specs.declared.ids.ModuleId.{ModuleId}
use Rattle.def_ids.specs.Ids.{is_same_map}
use Rattle.def_interner.specs.declared.macro_def.MacroDefId.{MacroDefId}
use Rattle.def_modules.specs.Maps.{facts_in, first_of_list, limit_of, with_module}
use Rattle.def_modules.specs.MapState.{MapState, ModuleState}
use Rattle.def_modules.specs.MapView.{MapFacts}
use Rattle.def_modules.specs.Scopes.{with_invocation}
use Rattle.def_modules.specs.Updates.{update_at}
use Rattle.def_oracle.specs.declared.source_database.CallAnswer.{CallAnswer}
use Rattle.def_oracle.specs.declared.source_database.UnresolvedMacro.{UnresolvedMacro}
use Rattle.def_oracle.specs.Oracle.{Oracle}
use Rattle.def_sources.specs.declared.asked.BuiltinShadowMode.TheVariants as shadow
use Rattle.def_sources.specs.declared.per_ns.MacroSubNs.TheVariants as sub
use Rattle.def_paths.specs.Paths.{for_import, resolve, resolver}
use Rattle.def_globs.proofs.ListLaws.{first_in, later_in}
use Rattle.def_rules.specs.declared.inner_calls.InnerCall.{InnerCall}
use Rattle.def_rules.specs.Calls.{answer_by, deeper, deepest, expansion_effect, expansion_site, expansion_tree, inner_recorded, invoking, is_too_deep, recording_inner, with_inner_calls, with_replaced}
use Rattle.def_rules.specs.Attributes.{AttrUse, HasNoExpander, PassesOver, ReadsDerives, ReplacesItem, attr_macro, attr_query, attr_use, is_helper, is_helper_name, item_site}
use Rattle.def_rules.specs.Deferred.{added_helpers, deferral, deferred_at, deferred_derive, deferred_expansion}
use Rattle.def_rules.specs.Derives.{derive_call, derive_directive, derive_macro, derive_paths, derive_query, derives_from, may_derive, with_shown_helpers}
use Rattle.def_rules.specs.declared.diagnostics.DefDiagnosticKind.{DefDiagnosticKind}
use Rattle.def_rules.specs.Directives.{AllStay, ExpansionStep, GivesDerive, MacroStep, Replaces, Stays, Told, Turn, WalksItem, answer_in, attr_told, call_answer, call_told, called_state, derive_told, expanding, expansion_of, given_state, given_turn, item_told, list_told, replaced_state, told, told_by, tried_effect, tries, turn_effect, use_told, walked_state}
use Rattle.def_rules.specs.Imports.{is_ready}
use Rattle.def_rules.specs.Items.{node_at, top_items, walk}
use Rattle.def_rules.specs.Recording.{NoneReady}
use Rattle.def_rules.specs.State.{State, Effect, Event, Site, Task, TryDerive, Visit, after, followed_by, only, root, with_map, world}
use Rattle.def_rules.specs.Waiting.{Attr, Derive, Expansion, FnLike, MacroDirective, MacroDirectiveKind, WrittenAttr, WrittenCall, WrittenDerive}
use Rattle.std.specs.Prelude.{IsPermutation}
use Rattle.std.proofs.lemmas.List.Sorted.{Contains-permutation, IsPermutation-refl, IsPermutation-sym, IsPermutation-trans, sum_by-IsPermutation}
use Rattle.def_rules.specs.Fallback.{FallbackStep, IsStuck, attr_reported, given_up}
use Rattle.def_rules.specs.InTurn.{LeavesOf}
use Rattle.def_rules.specs.Steps.{Step, asks, expands, falls_back, notes, one, reorders}
use Rattle.def_laws.specs.Depths.{AreVisitsBelow, OnlyInvokes, Queues, WaitsAlike, deferred_work, depth_rank, expansion_work, kind_rank, macro_rank, macro_work, visit_rank, waiting_work}
use Rattle.def_laws.specs.Own.{IsOwn, Stands}
use Rattle.def_laws.specs.Performs.{Tried}
use Rattle.def_laws.specs.Runs.{Collects, CollectsCalmly, Leads, LeaveOf, at}
use Rattle.def_laws.proofs.DeferredLaws.{deferring_work, expanded_work, none_work}
use Rattle.def_laws.proofs.FootprintLaws.{Footprint, waits_alike}
use Rattle.def_laws.proofs.DepthsLaws.{above_deepest, deeper_is, deeper_last, item_ranks, visit_rank_is, walk_lies}
use Rattle.def_laws.specs.Work.{weight}
use Rattle.def_laws.proofs.StepsLaws.{calmly_led, calmly_refl, calmly_trans, footprint_raised, footprint_sound}
use Rattle.def_laws.proofs.TurnsLaws.{TryFootprint, TurnFootprint, asks_footprint, expands_footprint, falls_footprint, notes_footprint, told_same, tries_footprint, waiting_with}
use Rattle.def_laws.proofs.WaveLaws.{runs_task}
use Rattle.def_laws.proofs.WorkLaws.{lighter, weight_is}

-- Calls that are recorded, which no path reads

textual_same : (ms : List ModuleState) (k i : ℕ) (position : InFile FileAstId) (call : MacroCallId) (name : Name)
    → option_map_or (λ (m : ModuleState). m.textual name) (slice_get (update_at ms k (with_invocation position call)) i) [] ≡ option_map_or (λ (m : ModuleState). m.textual name) (slice_get ms i) []
textual_same [] k i position call name = refl
textual_same (m ∷ ms) zero zero position call name = refl
textual_same (m ∷ ms) zero (suc i) position call name = refl
textual_same (m ∷ ms) (suc k) zero position call name = refl
textual_same (m ∷ ms) (suc k) (suc i) position call name = textual_same ms k i position call name

facts_invoked : (m : MapState) (place : ℕ) (position : InFile FileAstId) (call : MacroCallId) → facts_in (with_module m place (with_invocation position call)) ≡ facts_in m
facts_invoked m place position call =
    λ i. record (facts_in m) { textual_macro = λ at name. if is_same_map at.map m.id then first_of_list (textual_same m.modules place at.index position call name i) else None }

facts_inner : (calls : List InnerCall) (m : MapState) → facts_in (recording_inner calls m) ≡ facts_in m
facts_inner [] m = refl
facts_inner (made ∷ calls) m = facts_inner calls (with_module m made.module_id.index (with_invocation made.position made.call)) ∙ facts_invoked m made.module_id.index made.position made.call

krate_inner : (calls : List InnerCall) (m : MapState) → (recording_inner calls m).krate ≡ m.krate
krate_inner [] m = refl
krate_inner (made ∷ calls) m = krate_inner calls (with_module m made.module_id.index (with_invocation made.position made.call))

helpers_inner : (calls : List InnerCall) (m : MapState) → (recording_inner calls m).helpers ≡ m.helpers
helpers_inner [] m = refl
helpers_inner (made ∷ calls) m = helpers_inner calls (with_module m made.module_id.index (with_invocation made.position made.call))

pub invokes_refl : (s : State) → OnlyInvokes s s
invokes_refl s = record { map = s.map; macros = s.macros; inner_calls = s.inner_calls; is = refl; order = IsPermutation-refl s.macros; facts = refl; krate = refl; helpers = refl }

-- what waits is put into another order
pub invokes_ordered : (s : State) (macros : List MacroDirective) → IsPermutation s.macros macros → OnlyInvokes s (record s { macros = macros })
invokes_ordered s macros order = record { map = s.map; macros = macros; inner_calls = s.inner_calls; is = refl; order = order; facts = refl; krate = refl; helpers = refl }

-- calls are to be recorded
invokes_calls : (s : State) (place : ModuleId) (calls : List (InFile FileAstId × MacroCallId)) → OnlyInvokes s (with_inner_calls s place calls)
invokes_calls s place calls = record { map = s.map; macros = s.macros; inner_calls = (with_inner_calls s place calls).inner_calls; is = refl; order = IsPermutation-refl s.macros; facts = refl; krate = refl; helpers = refl }

-- all are recorded that were to be
pub invokes_noted : (s : State) → OnlyInvokes s (inner_recorded s)
invokes_noted s =
    record { map = recording_inner s.inner_calls s.map; macros = s.macros; inner_calls = []; is = refl; order = IsPermutation-refl s.macros; facts = facts_inner s.inner_calls s.map; krate = krate_inner s.inner_calls s.map; helpers = helpers_inner s.inner_calls s.map }

pub invokes_trans : (s t u : State) → OnlyInvokes s t → OnlyInvokes t u → OnlyInvokes s u
invokes_trans s t u p q = record {
  map = q.map;
  macros = q.macros;
  inner_calls = q.inner_calls;
  is = q.is ∙ ap (λ (x : State). record x { map = q.map; macros = q.macros; inner_calls = q.inner_calls }) p.is;
  order = IsPermutation-trans s.macros p.macros q.macros p.order (subst (λ ds. IsPermutation ds q.macros) (ap (λ (x : State). x.macros) p.is) q.order);
  facts = q.facts ∙ ap (λ (x : State). facts_in x.map) p.is ∙ p.facts;
  krate = q.krate ∙ ap (λ (x : State). x.map.krate) p.is ∙ p.krate;
  helpers = q.helpers ∙ ap (λ (x : State). x.map.helpers) p.is ∙ p.helpers;
}

module _ (oracle : Oracle) (s t : State) (only_calls : OnlyInvokes s t) where
  world_same : world oracle t ≡ world oracle s
  world_same =
      ap (world oracle) only_calls.is
      ∙ (λ i. record { oracle = oracle; session = s.session; map = record { facts = only_calls.facts i; content = s.content }; local = unwrap_or s.outer s.local })

  id_same : t.map.id ≡ s.map.id
  id_same = ap (λ (x : State). x.map.id) only_calls.is ∙ ap (λ (f : MapFacts). f.id) only_calls.facts

  limit_same : limit_of t.map.krate ≡ limit_of s.map.krate
  limit_same = ap limit_of (ap (λ (x : State). x.map.krate) only_calls.is ∙ only_calls.krate)

  helpers_same : t.map.helpers ≡ s.map.helpers
  helpers_same = ap (λ (x : State). x.map.helpers) only_calls.is ∙ only_calls.helpers

  answer_same : (d : MacroDirective) (written : WrittenCall) → call_answer oracle t d written ≡ call_answer oracle s d written
  answer_same d written =
      ap (λ w. answer_in w t.map d written) world_same
      ∙ (λ i. answer_by oracle (resolver (world oracle s) shadow.Module sub.Bang d.scope)
      (record { position = d.position; path = written.path; ctxt = written.ctxt; kind = written.expand_to; krate = (id_same i).krate; depth = d.depth; recursion_limit = limit_same i }))

  call_turn_same : (d : MacroDirective) (answer : Result CallAnswer UnresolvedMacro) → (call_told t d answer).turn ≡ (call_told s d answer).turn
  call_turn_same d (Ok answer) = refl
  call_turn_same d (Err unresolved) = refl

  module _ (d : MacroDirective) (written : WrittenAttr) where
    query_same : (found : MacroDefId) → attr_query t d written found ≡ attr_query s d written found
    query_same found = λ i.
        record {
          krate = (id_same i).krate;
          macro_def = found;
          position = d.position;
          attr_id = written.id;
          input = written.attr.input;
          ctxt = written.attr.ctxt;
          censored = (only_calls.is i).active d.position ++ written.id ∷ [];
          depth = d.depth;
        }

    list_turn_same : (found : MacroDefId) (paths : Result (List (ModPath × SyntaxContext)) DefDiagnosticKind) → (list_told oracle t d written found paths).turn ≡ (list_told oracle s d written found paths).turn
    list_turn_same found (Ok paths) = ap (λ q. WalksItem (derives_from written.id (oracle.make_attr_call q) 0 paths) written) (query_same found)
    list_turn_same found (Err kind) = refl

    use_turn_same : (found : MacroDefId) (role : AttrUse) → (use_told oracle t d written found role).turn ≡ (use_told oracle s d written found role).turn
    use_turn_same found PassesOver = refl
    use_turn_same found ReadsDerives = list_turn_same found (derive_paths written (may_derive (node_at oracle written.tree written.item)))
    use_turn_same found ReplacesItem = ap (λ q. Replaces (oracle.make_attr_call q)) (query_same found)
    use_turn_same found (HasNoExpander err) = refl

    attr_turn_same : (found : Option MacroDefId) → (attr_told oracle t d written found).turn ≡ (attr_told oracle s d written found).turn
    attr_turn_same None = refl
    attr_turn_same (Some found) =
        ap (λ (id : MapId). (use_told oracle t d written found (attr_use oracle id.krate found.kind)).turn) id_same ∙ use_turn_same found (attr_use oracle s.map.id.krate found.kind)

    item_turn_same : (helper : Bool) → (item_told oracle t d written helper).turn ≡ (item_told oracle s d written helper).turn
    item_turn_same true = refl
    item_turn_same false =
        ap (λ w. (attr_told oracle t d written (attr_macro w d.scope written.attr)).turn) world_same ∙ attr_turn_same (attr_macro (world oracle s) d.scope written.attr)

  derive_turn_same : (d : MacroDirective) (written : WrittenDerive) (found : Option MacroDefId) → (derive_told oracle t d written found).turn ≡ (derive_told oracle s d written found).turn
  derive_turn_same d written None = refl
  derive_turn_same d written (Some found) = ap (λ (id : MapId). GivesDerive (oracle.make_derive_call (derive_query id.krate d written found))) id_same

  kind_turn_same : (d : MacroDirective) (kind : MacroDirectiveKind) → (told_by oracle t d kind).turn ≡ (told_by oracle s d kind).turn
  kind_turn_same d (FnLike written) = ap (λ a. (call_told t d a).turn) (answer_same d written) ∙ call_turn_same d (call_answer oracle s d written)
  kind_turn_same d (Attr written) =
      ap (λ helpers. (item_told oracle t d written (is_helper_name (helpers d.position) (as_ident written.attr.path))).turn) helpers_same
      ∙ item_turn_same d written (is_helper s d.position written.attr)
  kind_turn_same d (Derive written) =
      ap (λ w. (derive_told oracle t d written (derive_macro w d.scope written)).turn) world_same ∙ derive_turn_same d written (derive_macro (world oracle s) d.scope written)

  -- what waits has the same turn as before
  pub turn_same : (d : MacroDirective) → (told oracle t d).turn ≡ (told oracle s d).turn
  turn_same d = kind_turn_same d d.kind

  -- what waits waited before
  pub waited_before : (d : MacroDirective) → Contains t.macros d → Contains s.macros d
  waited_before d h =
      Contains-permutation only_calls.macros s.macros d (IsPermutation-sym s.macros only_calls.macros only_calls.order) (subst (λ (x : State). Contains x.macros d) only_calls.is h)

  pub all_stay_same : AllStay oracle s → AllStay oracle t
  all_stay_same all = record { stay = λ d h. turn_same d ∙ all.stay d (waited_before d h) }

  pub none_ready_same : NoneReady oracle s → NoneReady oracle t
  none_ready_same none = record {
    none = λ d h. ap (λ w. is_ready d.recorded (resolve w for_import d.import.scope d.import.written.path)) world_same ∙ none.none d (subst (λ (x : State). Contains x.imports d) only_calls.is h);
  }

  pub work_same : waiting_work t ≡ waiting_work s
  work_same =
      let whole = ap waiting_work only_calls.is in
      let sum = sum_by-IsPermutation macro_work s.macros only_calls.macros only_calls.order in
      omega (arith, whole, sum)

  pub expansions_same : t.expansions ≡ s.expansions
  expansions_same = ap (λ (x : State). x.expansions) only_calls.is

-- A turn

module _ (oracle : Oracle) (s : State) (effect : Effect) (turn : TurnFootprint s effect) (step : (before : List Event) → Step oracle (at [] s before) (after (at [] s before) [] effect)) where
  abbrev u : State
  u = waiting_with s turn.macros turn.expansions turn.deferred turn.inner

  pub stands_then : Stands [] s → Stands [] u
  stands_then stands = record { state = stands.state; tasks = stands.tasks; waiting = λ place waits. stands.waiting place (turn.fewer place waits) }

  -- something that waits has its turn
  unfoldable pub collects_turn : Collects oracle [] s (effect.tasks ++ []) effect.state
  collects_turn = record {
    runs = λ before. (before ++ effect.events, one (step before));
    keeps = λ stands sound. footprint_sound [] u turn.scope turn.depth effect turn.foot (stands_then stands) sound;
    raised = λ stands sound before importer slot left kept raised. footprint_raised [] u turn.scope turn.depth effect turn.foot (stands_then stands) importer slot kept.order raised;
  }

  -- what leaves in it, leaves in its step
  leave_turn : (waited : List MacroDirective) → ((before : List Event) → LeavesOf waited (step before)) → LeaveOf waited collects_turn.runs
  unfolding collects_turn
  leave_turn waited leave = leave

  calmly_turn : ((before : List Event) → LeavesOf [] (step before)) → CollectsCalmly oracle [] s (effect.tasks ++ []) effect.state
  calmly_turn leave = record { collects = collects_turn; calm = leave_turn [] leave }

-- What waits by its weight

weight_grows : (rank : ℕ) (kind : MacroDirectiveKind) → weight rank ≤ weight (rank + kind_rank kind)
weight_grows rank (FnLike written) = let same : rank + kind_rank (FnLike written) ≡ rank = omega arith in let whole = ap weight same in omega (arith, whole)
weight_grows rank (Derive written) = let same : rank + kind_rank (Derive written) ≡ rank = omega arith in let whole = ap weight same in omega (arith, whole)
weight_grows rank (Attr written) = let here = weight_is rank in let above = weight_is (rank + 1) in let low = lighter rank (rank + 1) (omega arith) in omega (arith, here, above, low)

some_weight : (rank : ℕ) → 1 ≤ weight rank
some_weight rank = let whole = weight_is rank in let one = one-le-pow rank (2 ^ 65) (omega arith) in omega (arith, whole, one)

more_light : (rank : ℕ) (more : List MacroDirective) → ((d : MacroDirective) → Contains more d → macro_rank d < rank) → sum_by macro_work more ≤ length more * (2 * (2 ^ 65) ^ rank)
more_light rank [] lower = omega arith
more_light rank (d ∷ more) lower =
    let both = sum_by-cons macro_work d more in
    let first = lighter (macro_rank d) rank (lower d (first_in d more)) in
    let rest = more_light rank more (λ x h. lower x (later_in d more x h)) in
    omega (arith, both, first, rest)

-- what was queued weighs less than one thing that ranks above it
queues_less : (rank : ℕ) (s t : State) (queues : Queues rank s t) → length t.macros < 2 ^ 64 → sum_by macro_work queues.more < weight rank
queues_less rank s t queues few =
    let long : length t.macros ≡ length s.macros + length queues.more = ap length queues.macros ∙ length-append s.macros queues.more in
    let all = more_light rank queues.more queues.lower in
    let part : ℕ = 2 * (2 ^ 65) ^ rank in
    let most : length queues.more * (2 * (2 ^ 65) ^ rank) ≤ (2 ^ 64 - 1) * (2 * (2 ^ 65) ^ rank) = mul-le-mul_right (2 * (2 ^ 65) ^ rank) (omega (arith, long, few)) in
    let one = one-le-pow rank (2 ^ 65) (omega arith) in
    let whole = weight_is rank in
    omega (arith, all, most, one, whole)

-- Derives that are tried

-- those of one list weigh less than what ranks above their attribute's depth
tries_less : (rank n : ℕ) → n < 2 ^ 64 → n * (2 * weight rank) < weight (rank + 1)
tries_less rank n few =
    let above = weight_is (rank + 1) in
    let low = lighter rank (rank + 1) (omega arith) in
    let some = some_weight rank in
    let most : n * (2 * weight rank) ≤ (2 ^ 64 - 1) * (2 * weight rank) = mul-le-mul_right (2 * weight rank) (omega (arith, few)) in
    omega (arith, above, low, some, most)

-- what lies deeper weighs no more
deeper_weighs : (depth : ℕ) → depth ≤ deepest → weight (depth_rank (deeper depth)) ≤ weight (depth_rank depth)
deeper_weighs depth most = elim (cases_lt depth deepest) [
  | inl less ↦
      let next = deeper_is depth less in
      let low = lighter (depth_rank (deeper depth)) (depth_rank depth) (omega (arith, next, less)) in
      let whole = weight_is (depth_rank depth) in
      omega (arith, low, whole)
  | inr last ↦
      let here : deeper depth ≡ depth = deeper_last depth last ∙ omega (arith, most, last) in
      let both = ap (λ x. weight (depth_rank x)) here in
      omega (arith, both)
]

module _ (oracle : Oracle) (s : State) (d : MacroDirective) (written : WrittenDerive) where
  -- the state in which one was tried
  abbrev after_try : Option MacroDefId → State
  after_try found = (tried_effect oracle s d written found).state

  -- one that was given a call at once weighs no more than an expansion of the attribute's depth
  called_weighs : d.depth ≤ deepest → (found : MacroDefId) (call : MacroCallId) (deferred : Option ℕ) → waiting_work (called_state oracle s d written found call deferred) ≤ waiting_work s + 2 * weight (depth_rank d.depth)
  called_weighs deep found call None =
      let of_expansion : Expansion → ℕ = λ x. expansion_work x.depth in
      let e : Expansion = expansion_of (derive_directive d written) call in
      let more = sum_by-append of_expansion s.expansions (e ∷ []) in
      let last = sum_by-cons of_expansion e [] in
      let most = deeper_weighs d.depth deep in
      omega (arith, more, last, most)
  called_weighs deep found call (Some n) =
      let more = deferring_work s d.position (deferral d written call n (added_helpers s.map (with_shown_helpers oracle s.map d found call) d.position)) in
      let most = deeper_weighs d.depth deep in
      omega (arith, more, most)

  -- it weighs no more than two expansions of the attribute's depth
  try_weighs : d.depth ≤ deepest → (found : Option MacroDefId) → waiting_work (after_try found) ≤ waiting_work s + 2 * weight (depth_rank d.depth)
  try_weighs deep None =
      let waits : MacroDirective = derive_directive d written in
      let more = sum_by-append macro_work s.macros (waits ∷ []) in
      let last = sum_by-cons macro_work waits [] in
      let rank : macro_rank waits ≡ depth_rank (deeper d.depth) = omega arith in
      let same = ap weight rank in
      let most = deeper_weighs d.depth deep in
      omega (arith, more, last, same, most)
  try_weighs deep (Some found) = called_weighs deep found (derive_call oracle s d written found) (deferred_derive oracle found)

  -- what it lets wait
  abbrev tried_waits : Option MacroDefId → List MacroDirective
  tried_waits None = derive_directive d written ∷ []
  tried_waits (Some found) = []

  called_waits : (found : MacroDefId) (call : MacroCallId) (deferred : Option ℕ) → (called_state oracle s d written found call deferred).macros ≡ s.macros
  called_waits found call None = refl
  called_waits found call (Some n) = refl

  try_waits : (found : Option MacroDefId) → (after_try found).macros ≡ s.macros ++ tried_waits found
  try_waits None = refl
  try_waits (Some found) = called_waits found (derive_call oracle s d written found) (deferred_derive oracle found) ∙ sym (append-nil s.macros)

  module _ (rest : List Task) (found : Option MacroDefId) (is : derive_macro (world oracle s) d.scope written ≡ found) where
    abbrev tried : Effect
    tried = tried_effect oracle s d written found

    foot : TryFootprint s d.scope tried
    foot = tries_footprint oracle s d written tried (ap (tried_effect oracle s d written) (sym is))

    abbrev beside : State
    beside = waiting_with s foot.macros foot.expansions foot.deferred s.inner_calls

    try_stands : Stands (TryDerive d written ∷ rest) s → Stands (TryDerive d written ∷ rest) beside
    try_stands stands = record {
      state = stands.state;
      tasks = stands.tasks;
      waiting = λ place waits. elim (foot.fewer place waits) [ inl old ↦ stands.waiting place old | inr here ↦ subst (IsOwn s.map) (sym here) stands.tasks.0.0 ];
    }

    -- one is tried
    collects_try : CollectsCalmly oracle (TryDerive d written ∷ rest) s rest tried.state
    collects_try = subst (λ (tasks : List Task). CollectsCalmly oracle (TryDerive d written ∷ rest) s (tasks ++ rest) tried.state) foot.ends (record {
      collects = record {
        runs = runs_task (TryDerive d written) rest s tried (ap (tried_effect oracle s d written) (sym is));
        keeps = λ stands sound. footprint_sound (TryDerive d written ∷ rest) beside d.scope d.depth tried (foot.foot d.depth) (try_stands stands) sound;
        raised = λ stands sound before importer slot left kept raised. footprint_raised (TryDerive d written ∷ rest) beside d.scope d.depth tried (foot.foot d.depth) (try_stands stands) importer slot kept.order raised;
      };
      calm = λ before. tt;
    })

-- none is tried
pub tried_none : (oracle : Oracle) (d : MacroDirective) (s : State) → Tried oracle d [] s s
tried_none oracle d s = record { collects = λ rest. calmly_refl rest s; more = []; macros = sym (append-nil s.macros); work = omega arith }

-- one more is
pub tried_more : (oracle : Oracle) (d : MacroDirective) → d.depth ≤ deepest → (derives : List WrittenDerive) (written : WrittenDerive) (s t u : State) (found : Option MacroDefId) → Tried oracle d derives s t
    → derive_macro (world oracle t) d.scope written ≡ found → u ≡ (tried_effect oracle t d written found).state → Tried oracle d (derives ++ written ∷ []) s u
tried_more oracle d deep derives written s t u found before is now = record {
  collects = λ rest.
      let order : tries d (derives ++ written ∷ []) ++ rest ≡ tries d derives ++ TryDerive d written ∷ rest =
      ap (λ tasks. tasks ++ rest) (map-append (λ w. TryDerive d w) derives (written ∷ [])) ∙ append_assoc (tries d derives) (TryDerive d written ∷ []) rest in
      subst (λ tasks. CollectsCalmly oracle tasks s rest u) (sym order)
      (subst (λ x. CollectsCalmly oracle (tries d derives ++ TryDerive d written ∷ rest) s rest x) (sym now)
      (calmly_trans (before.collects (TryDerive d written ∷ rest)) (collects_try oracle t d written rest found is)));
  more = before.more ++ tried_waits oracle t d written found;
  macros =
      ap (λ (x : State). x.macros) now
      ∙ try_waits oracle t d written found
      ∙ ap (λ ds. ds ++ tried_waits oracle t d written found) before.macros
      ∙ append_assoc s.macros before.more (tried_waits oracle t d written found);
  work =
      let long = length-append derives (written ∷ []) in
      let was = before.work in
      let one = try_weighs oracle t d written deep found in
      let same = ap waiting_work now in
      let part : ℕ = 2 * weight (depth_rank d.depth) in
      let next : length (derives ++ written ∷ []) ≡ suc (length derives) = omega (arith, long) in
      let both : length (derives ++ written ∷ []) * part ≡ suc (length derives) * part = ap (λ n. n * part) next in
      omega (arith, was, one, same, both);
}

-- A macro that waits has its turn

walks_items : (oracle : Oracle) (s : State) (d : MacroDirective) (kind : MacroDirectiveKind) (derives : List WrittenDerive) (written : WrittenAttr) → (told_by oracle s d kind).turn ≡ WalksItem derives written → kind_rank kind ≡ 1
walks_items oracle s d (FnLike call) derives written is = absurd (by (call_answer oracle s d call) is)
  where
    given : (value : Option MacroCallId) → given_turn value ≡ WalksItem derives written → ⊥
    given None is = cc is
    given (Some call) is = cc is

    by : (answer : Result CallAnswer UnresolvedMacro) → (call_told s d answer).turn ≡ WalksItem derives written → ⊥
    by (Ok answer) is = given answer.value is
    by (Err unresolved) is = cc is
walks_items oracle s d (Derive derive) derives written is = absurd (by (derive_macro (world oracle s) d.scope derive) is)
  where
    by : (found : Option MacroDefId) → (derive_told oracle s d derive found).turn ≡ WalksItem derives written → ⊥
    by None is = cc is
    by (Some found) is = cc is
walks_items oracle s d (Attr attr) derives written is = refl

module _ (oracle : Oracle) (s : State) (before : List MacroDirective) (d : MacroDirective) (behind : List MacroDirective) (stands : s.macros ≡ before ++ d ∷ behind) where
  -- what it was told
  abbrev given : Told
  given = told oracle s d

  abbrev pub effect_by : Turn → Effect
  effect_by turn = turn_effect given.state before d behind turn

  abbrev pub asked : MacroStep oracle s (effect_by given.turn)
  asked = record { before = before; directive = d; behind = behind; stands = stands; is = refl }

  unfoldable pub collects_asked : Collects oracle [] s ((effect_by given.turn).tasks ++ []) (effect_by given.turn).state
  collects_asked = collects_turn oracle s (effect_by given.turn) (asks_footprint oracle s (effect_by given.turn) asked) (λ earlier. asks (effect_by given.turn) refl asked refl)

  -- it leaves, or stays
  pub leave_asked : (waited : List MacroDirective) → Contains waited d → LeaveOf waited collects_asked.runs
  unfolding collects_asked collects_turn
  leave_asked waited waits = λ earlier leaves. waits

  stays_calmly : given.turn ≡ Stays → LeaveOf [] collects_asked.runs
  unfolding collects_asked collects_turn
  stays_calmly is = λ earlier leaves. absurd (leaves is)

  -- what follows its turn, by what was told
  pub rest_by : (turn : Turn) → given.turn ≡ turn → (t : State) → CollectsCalmly oracle ((effect_by turn).tasks ++ []) (effect_by turn).state [] t → CollectsCalmly oracle ((effect_by given.turn).tasks ++ []) (effect_by given.turn).state [] t
  rest_by turn is t rest = subst (λ x. CollectsCalmly oracle ((effect_by x).tasks ++ []) (effect_by x).state [] t) (sym is) rest

  -- where it stays, only calls for its arguments are to be recorded
  pub collects_stays : given.turn ≡ Stays → CollectsCalmly oracle [] s [] given.state
  collects_stays is = subst (λ x. CollectsCalmly oracle [] s ((effect_by x).tasks ++ []) (effect_by x).state) is (record { collects = collects_asked; calm = stays_calmly is })

  call_stays : (answer : Result CallAnswer UnresolvedMacro) → OnlyInvokes s (call_told s d answer).state
  call_stays (Ok answer) = invokes_calls s d.scope answer.inner
  call_stays (Err unresolved) = invokes_refl s

  list_stays : (written : WrittenAttr) (found : MacroDefId) (paths : Result (List (ModPath × SyntaxContext)) DefDiagnosticKind) → (list_told oracle s d written found paths).turn ≡ Stays → OnlyInvokes s (list_told oracle s d written found paths).state
  list_stays written found (Ok paths) is = absurd (cc is)
  list_stays written found (Err kind) is = absurd (cc is)

  use_stays : (written : WrittenAttr) (found : MacroDefId) (role : AttrUse) → (use_told oracle s d written found role).turn ≡ Stays → OnlyInvokes s (use_told oracle s d written found role).state
  use_stays written found PassesOver is = absurd (cc is)
  use_stays written found ReadsDerives is = list_stays written found (derive_paths written (may_derive (node_at oracle written.tree written.item))) is
  use_stays written found ReplacesItem is = absurd (cc is)
  use_stays written found (HasNoExpander err) is = absurd (cc is)

  attr_stays : (written : WrittenAttr) (found : Option MacroDefId) → (attr_told oracle s d written found).turn ≡ Stays → OnlyInvokes s (attr_told oracle s d written found).state
  attr_stays written None is = invokes_refl s
  attr_stays written (Some found) is = use_stays written found (attr_use oracle s.map.id.krate found.kind) is

  item_stays : (written : WrittenAttr) (helper : Bool) → (item_told oracle s d written helper).turn ≡ Stays → OnlyInvokes s (item_told oracle s d written helper).state
  item_stays written true is = absurd (cc is)
  item_stays written false is = attr_stays written (attr_macro (world oracle s) d.scope written.attr) is

  derive_stays : (written : WrittenDerive) (found : Option MacroDefId) → (derive_told oracle s d written found).turn ≡ Stays → OnlyInvokes s (derive_told oracle s d written found).state
  derive_stays written None is = invokes_refl s
  derive_stays written (Some found) is = absurd (cc is)

  kind_stays : (kind : MacroDirectiveKind) → (told_by oracle s d kind).turn ≡ Stays → OnlyInvokes s (told_by oracle s d kind).state
  kind_stays (FnLike written) is = call_stays (call_answer oracle s d written)
  kind_stays (Attr written) is = item_stays written (is_helper s d.position written.attr) is
  kind_stays (Derive written) is = derive_stays written (derive_macro (world oracle s) d.scope written) is

  pub only_invokes : given.turn ≡ Stays → OnlyInvokes s given.state
  only_invokes is = kind_stays d.kind is

  -- what waited before and behind it, and itself
  weighed : sum_by macro_work s.macros ≡ sum_by macro_work (before ++ behind) + 2 * weight (macro_rank d)
  weighed =
      let was : sum_by macro_work s.macros ≡ sum_by macro_work before + sum_by macro_work (d ∷ behind) = ap (sum_by macro_work) stands ∙ sum_by-append macro_work before (d ∷ behind) in
      let first = sum_by-cons macro_work d behind in
      let left = sum_by-append macro_work before behind in
      omega (arith, was, first, left)

  -- with a call, less waits
  module _ (call : MacroCallId) where
    expanding_lighter : (m : MapState) → waiting_work (expanding (with_map given.state m) (before ++ behind) d call) < waiting_work s
    expanding_lighter m =
        let of_expansion : Expansion → ℕ = λ x. expansion_work x.depth in
        let was = weighed in
        let more = sum_by-append of_expansion given.state.expansions (expansion_of d call ∷ []) in
        let old : sum_by of_expansion given.state.expansions ≡ sum_by of_expansion s.expansions = ap (sum_by of_expansion) (told_same oracle s d).waits.expansions in
        let put_off = ap deferred_work (told_same oracle s d).waits.deferred in
        let last = sum_by-cons of_expansion (expansion_of d call) [] in
        let grows = weight_grows (depth_rank d.depth) d.kind in
        let some = some_weight (depth_rank d.depth) in
        omega (arith, was, more, old, put_off, last, grows, some)

    -- it was given one
    pub given_lighter : waiting_work (given_state given.state before d behind call) < waiting_work s
    given_lighter = expanding_lighter (invoking d.scope.index ((d.position, call) ∷ []) given.state.map)

    -- it is a derive that was given one
    pub derived_lighter : waiting_work (expanding given.state (before ++ behind) d call) < waiting_work s
    derived_lighter = expanding_lighter given.state.map

    -- its attribute was given one, and the derives that were deferred for its item are expansions
    pub replaced_lighter : waiting_work (replaced_state given.state before d behind call) < waiting_work s
    replaced_lighter =
        let of_expansion : Expansion → ℕ = λ x. expansion_work x.depth in
        let t : State = given.state in
        let freed : List Expansion = map deferred_expansion (deferred_at t d.position) in
        let was = weighed in
        let both = sum_by-append of_expansion (t.expansions ++ freed) (expansion_of d call ∷ []) in
        let more = sum_by-append of_expansion t.expansions freed in
        let old : sum_by of_expansion t.expansions ≡ sum_by of_expansion s.expansions = ap (sum_by of_expansion) (told_same oracle s d).waits.expansions in
        let put_off = ap deferred_work (told_same oracle s d).waits.deferred in
        let gone = none_work t d.position in
        let same = expanded_work (deferred_at t d.position) in
        let last = sum_by-cons of_expansion (expansion_of d call) [] in
        let grows = weight_grows (depth_rank d.depth) d.kind in
        let some = some_weight (depth_rank d.depth) in
        omega (arith, was, both, more, old, put_off, gone, same, last, grows, some)

  module _ (derives : List WrittenDerive) (written : WrittenAttr) (is : given.turn ≡ WalksItem derives written) where
    -- the state in which its attribute was passed over
    abbrev passed : State
    passed = walked_state given.state before d behind written

    abbrev again : Task
    again = Visit (item_site given.state d written) written.item

    module _ (u t : State) (tried : Tried oracle d derives passed u) (leads : Leads oracle (again ∷ []) u [] t) where
      -- its derives were tried, and its item was walked
      pub walked_rest : CollectsCalmly oracle ((effect_by (WalksItem derives written)).tasks ++ []) passed [] t
      walked_rest =
          subst (λ tasks. CollectsCalmly oracle tasks passed [] t) (sym (append-nil (tries d derives ++ again ∷ []))) (calmly_trans (tried.collects (again ∷ [])) (calmly_led leads))

      -- what was queued stands behind the others
      abbrev pub queued : List MacroDirective
      queued = tried.more ++ (leads.queues (visit_rank d.depth) (omega arith, tt)).1.more

      pub queued_behind : t.macros ≡ (before ++ behind) ++ queued
      queued_behind =
          let queues : Queues (visit_rank d.depth) u t = (leads.queues (visit_rank d.depth) (omega arith, tt)).1 in
          queues.macros ∙ ap (λ ds. ds ++ queues.more) tried.macros ∙ append_assoc (before ++ behind) tried.more queues.more

      -- and less waits
      pub walked_lighter : d.depth ≤ deepest → length derives < 2 ^ 64 → length t.macros < 2 ^ 64 → waiting_work t < waiting_work s
      walked_lighter most short few =
          let of_expansion : Expansion → ℕ = λ x. expansion_work x.depth in
          let kind = walks_items oracle s d d.kind derives written is in
          let low = item_ranks d.depth most in
          let below : visit_rank d.depth ≤ macro_rank d = omega (arith, kind, low) in
          let queues : Queues (macro_rank d) u t = (leads.queues (macro_rank d) (below, tt)).1 in
          let less = queues_less (macro_rank d) u t queues few in
          let now : sum_by macro_work t.macros ≡ sum_by macro_work u.macros + sum_by macro_work queues.more = ap (sum_by macro_work) queues.macros ∙ sum_by-append macro_work u.macros queues.more in
          let was = weighed in
          let kept : sum_by of_expansion t.expansions ≡ sum_by of_expansion u.expansions = ap (sum_by of_expansion) leads.expansions in
          let old : sum_by of_expansion passed.expansions ≡ sum_by of_expansion s.expansions = ap (sum_by of_expansion) (told_same oracle s d).waits.expansions in
          let put_off = ap deferred_work (told_same oracle s d).waits.deferred in
          let fewer = leads.deferred in
          let more = tried.work in
          let some = tries_less (depth_rank d.depth) (length derives) short in
          let same : weight (macro_rank d) ≡ weight (depth_rank d.depth + 1) = ap (λ k. weight (depth_rank d.depth + k)) kind in
          omega (arith, less, now, was, kept, old, put_off, fewer, more, some, same)

-- An item that waits is given up

module _ (oracle : Oracle) (s : State) (before : List MacroDirective) (d : MacroDirective) (behind : List MacroDirective) (written : WrittenAttr) (stands : s.macros ≡ before ++ d ∷ behind) (is_attr : d.kind ≡ Attr written) where
  -- the state in which its attribute was passed over
  abbrev pub given_up_state : State
  given_up_state = walked_state (attr_reported s d written) before d behind written

  module _ (u t : State) (tried : Tried oracle d [] given_up_state u) (leads : Leads oracle (Visit (item_site (attr_reported s d written) d written) written.item ∷ []) u [] t) where
    -- where a state is stuck it may be, and its item is walked
    pub collects_given_up : IsStuck oracle s → CollectsCalmly oracle [] s [] t
    collects_given_up stuck =
        let effect : Effect = given_up s before d behind written in
        let step : FallbackStep oracle s effect = record { before = before; directive = d; behind = behind; written = written; stands = stands; is_attr = is_attr; stuck = stuck; is = refl } in
        let turn : CollectsCalmly oracle [] s (effect.tasks ++ []) effect.state = calmly_turn oracle s effect (falls_footprint oracle s effect step) (λ earlier. falls_back effect refl step refl) (λ earlier. tt) in
        calmly_trans turn (calmly_trans (tried.collects (Visit (item_site (attr_reported s d written) d written) written.item ∷ [])) (calmly_led leads))

    -- and less waits
    pub given_up_lighter : d.depth ≤ deepest → length t.macros < 2 ^ 64 → waiting_work t < waiting_work s
    given_up_lighter most few =
        let kind : kind_rank d.kind ≡ 1 = ap kind_rank is_attr in
        let low = item_ranks d.depth most in
        let below : visit_rank d.depth ≤ macro_rank d = omega (arith, kind, low) in
        let queues : Queues (macro_rank d) u t = (leads.queues (macro_rank d) (below, tt)).1 in
        let less = queues_less (macro_rank d) u t queues few in
        let now : sum_by macro_work t.macros ≡ sum_by macro_work u.macros + sum_by macro_work queues.more = ap (sum_by macro_work) queues.macros ∙ sum_by-append macro_work u.macros queues.more in
        let more = tried.work in
        let was = weighed oracle s before d behind stands in
        let kept = ap (sum_by (λ (x : Expansion). expansion_work x.depth)) leads.expansions in
        let fewer = leads.deferred in
        let some = some_weight (macro_rank d) in
        omega (arith, less, now, more, was, kept, fewer, some)

-- The macros that wait are put into another order, and as much waits
pub collects_ordered : (oracle : Oracle) (s : State) (macros : List MacroDirective) → IsPermutation s.macros macros → CollectsCalmly oracle [] s [] (record s { macros = macros })
collects_ordered oracle s macros same = record {
  collects = record {
    runs = λ earlier. (earlier, one (reorders macros same refl));
    keeps = λ stands sound. sound;
    raised = λ stands sound earlier importer slot left kept raised. raised;
  };
  calm = λ earlier. tt;
}

-- The calls are recorded that were made for arguments
pub collects_noted : (oracle : Oracle) (s : State) → CollectsCalmly oracle [] s [] (inner_recorded s)
collects_noted oracle s =
    let u : State = record s { inner_calls = [] } in
    let foot : Footprint u (root s.map) 0 (only (inner_recorded s)) = notes_footprint s (root s.map) 0 in
    let bare : Stands [] s → Stands [] u = λ stands. record { state = stands.state; tasks = stands.tasks; waiting = stands.waiting } in
    record {
      collects = record {
        runs = λ earlier. (earlier ++ [], one (notes refl refl));
        keeps = λ stands sound. footprint_sound [] u (root s.map) 0 (only (inner_recorded s)) foot (bare stands) sound;
        raised = λ stands sound earlier importer slot left kept raised. footprint_raised [] u (root s.map) 0 (only (inner_recorded s)) foot (bare stands) importer slot kept.order raised;
      };
      calm = λ earlier. tt;
    }

pub ordered_work : (s : State) (macros : List MacroDirective) → IsPermutation s.macros macros → waiting_work (record s { macros = macros }) ≡ waiting_work s
ordered_work s macros same = let sum = sum_by-IsPermutation macro_work s.macros macros same in omega (arith, sum)

-- An expansion is walked

begins_alike : (oracle : Oracle) (u : State) (e : Expansion) → WaitsAlike u (expansion_effect oracle u e).state
begins_alike oracle u e = by (is_too_deep u.map e.depth)
  where
    by : (deep : Bool) → WaitsAlike u (cond deep (only u) (followed_by (with_replaced oracle u e) (walk oracle (expansion_site oracle u e) (top_items oracle (expansion_tree e.call))))).state
    by true = waits_alike refl refl refl refl refl
    by false = waits_alike refl refl refl refl refl

expansion_lies : (oracle : Oracle) (u : State) (e : Expansion) → e.depth ≤ deepest → AreVisitsBelow (depth_rank e.depth) (expansion_effect oracle u e).tasks
expansion_lies oracle u e most = by (nat_lt (limit_of u.map.krate) e.depth) (nat_eq e.depth deepest) refl
  where
    inner : Site
    inner = expansion_site oracle u e

    ids : List ModItemId
    ids = top_items oracle (expansion_tree e.call)

    by : (over last : Bool) → nat_eq e.depth deepest ≡ last → AreVisitsBelow (depth_rank e.depth) (cond (over || last) (only u) (followed_by (with_replaced oracle u e) (walk oracle inner ids))).tasks
    by true last is = tt
    by false true is = tt
    by false false is = let same = visit_rank_is e.depth (above_deepest e.depth most is) in walk_lies oracle (depth_rank e.depth) inner ids (omega (arith, same))

module _ (oracle : Oracle) (s t : State) (e : Expansion) (rest : List Expansion) (inner : List Task) (recorded : s.inner_calls ≡ []) (first : s.expansions ≡ e ∷ rest) where
  -- the state without the expansion
  abbrev pub without : State
  without = record s { expansions = rest }

  stepped : ExpansionStep oracle s (expansion_effect oracle without e)
  stepped = record { recorded = recorded; before = []; expansion = e; behind = rest; stands = first; is = refl }

  module _ (begun : State) (opened : expansion_effect oracle without e ≡ followed_by begun inner) (leads : Leads oracle inner begun [] t) where
    -- an expansion had its turn, and was walked
    pub collects_expanded : CollectsCalmly oracle [] s [] t
    collects_expanded =
        let effect : Effect = expansion_effect oracle without e in
        let turn : CollectsCalmly oracle [] s (effect.tasks ++ []) effect.state = calmly_turn oracle s effect (expands_footprint oracle s effect stepped) (λ earlier. expands effect refl stepped refl) (λ earlier. tt) in
        let first_tasks : CollectsCalmly oracle [] s inner begun =
        subst (λ tasks. CollectsCalmly oracle [] s tasks begun) (append-nil inner) (subst (λ (x : Effect). CollectsCalmly oracle [] s (x.tasks ++ []) x.state) opened turn) in
        calmly_trans first_tasks (calmly_led leads)

    -- still no call is to be recorded
    pub expanded_recorded : t.inner_calls ≡ []
    expanded_recorded =
        let alike : WaitsAlike without begun = subst (λ (x : Effect). WaitsAlike without x.state) opened (begins_alike oracle without e) in
        leads.inner_calls ∙ alike.inner_calls ∙ recorded

    -- and less waits
    pub expanded_lighter : e.depth ≤ deepest → length t.macros < 2 ^ 64 → waiting_work t < waiting_work s
    expanded_lighter most few =
        let of_expansion : Expansion → ℕ = λ x. expansion_work x.depth in
        let rank : ℕ = depth_rank e.depth in
        let lie : AreVisitsBelow rank inner = subst (λ (x : Effect). AreVisitsBelow rank x.tasks) opened (expansion_lies oracle without e most) in
        let queues : Queues rank begun t = (leads.queues rank lie).1 in
        let less = queues_less rank begun t queues few in
        let alike : WaitsAlike without begun = subst (λ (x : Effect). WaitsAlike without x.state) opened (begins_alike oracle without e) in
        let now : sum_by macro_work t.macros ≡ sum_by macro_work s.macros + sum_by macro_work queues.more =
        ap (sum_by macro_work) (queues.macros ∙ ap (λ ds. ds ++ queues.more) alike.macros) ∙ sum_by-append macro_work s.macros queues.more in
        let left : sum_by of_expansion t.expansions ≡ sum_by of_expansion rest = ap (sum_by of_expansion) (leads.expansions ∙ alike.expansions) in
        let was : sum_by of_expansion s.expansions ≡ expansion_work e.depth + sum_by of_expansion rest = ap (sum_by of_expansion) first ∙ sum_by-cons of_expansion e rest in
        let put_off = ap deferred_work alike.deferred in
        let fewer = leads.deferred in
        omega (arith, less, now, left, was, put_off, fewer)

-- Passes over the imports

nothing_queued : (s t : State) (queues : Queues 0 s t) → t.macros ≡ s.macros
nothing_queued s t queues = queues.macros ∙ by queues.more queues.lower
  where
    by : (more : List MacroDirective) → ((d : MacroDirective) → Contains more d → macro_rank d < 0) → s.macros ++ more ≡ s.macros
    by [] lower = append-nil s.macros
    by (d ∷ more) lower = let below = lower d (first_in d more) in absurd (omega (arith, below))

-- where nothing is visited, nothing is queued, and no more waits
pub leads_lighter : {oracle : Oracle} (s t : State) → Leads oracle [] s [] t → waiting_work t ≤ waiting_work s
leads_lighter s t leads =
    let macros = ap (sum_by macro_work) (nothing_queued s t (leads.queues 0 tt).1) in
    let expansions = ap (sum_by (λ (e : Expansion). expansion_work e.depth)) leads.expansions in
    let deferred = leads.deferred in
    omega (arith, macros, expansions, deferred)
