-- What rows share of their answers: what follows of each run is cited, and only what is special of a row is left to it.
use Rattle.std.proofs.Common.{◌&&◌, ◌≡◌, ℕ, List, [], ◌∷◌, ◌++◌, true, false, Some, None, slice_get, refl, sym, subst, ap, ◌∙◌, IsPermutation, Contains, Bool, not, inl, inr, true≢false, append-nil}
use Rattle.std.proofs.lemmas.List.Sorted.{Contains-permutation, IsPermutation-sym}
use Rattle.std.proofs.lemmas.Bool.{and_parts}
use Rattle.std.specs.List.{IsDistinct, list_all}
use Rattle.def_ids.specs.declared.ids.ModuleId.{ModuleId}
use Rattle.def_interner.specs.Session.{Session}
use Rattle.def_bindings.specs.declared.bindings.EdgeTo.{EdgeTo}
use Rattle.def_bindings.specs.declared.bindings.Slot.{Slot}
use Rattle.def_bindings.specs.declared.visibility.Visibility.{Visibility}
use Rattle.def_bindings.specs.Closure.{IsClosed, IsCoherent}
use Rattle.def_bindings.specs.Content.{Content}
use Rattle.def_bindings.specs.Order.{Order}
use Rattle.def_bindings.specs.Puts.{copied}
use Rattle.def_globs.proofs.ListLaws.{first_in, in_cases, none_in}
use Rattle.def_globs.specs.Raised.{IsRaisedAt}
use Rattle.def_oracle.specs.Oracle.{Oracle}
use Rattle.def_laws.proofs.DeclaredLaws.{declared_along, was_put_along}
use Rattle.def_laws.proofs.DeferredLeftLaws.{none_deferred_along}
use Rattle.def_laws.proofs.EveryNamespaceLaws.{every_namespace_along}
use Rattle.def_laws.proofs.StaysLaws.{explicit_stays_along}
use Rattle.def_rules.specs.declared.outcome.Outcome.{Outcome}
use Rattle.def_rules.specs.Calls.{expansion_effect, inner_recorded, recording_inner}
use Rattle.def_rules.specs.Directives.{AllStay, ExpansionStep, GivesCall, GivesDerive, Replaces, MacroStep, Stays, Turn, WalksItem, told, turn_effect}
use Rattle.def_rules.specs.Headline.{Answers}
use Rattle.def_rules.specs.Imports.{answer_now, is_ready, unresolved_imports}
use Rattle.def_rules.specs.Recording.{ImportStep, NoneReady, import_effect}
use Rattle.def_rules.specs.Report.{Answer, AreTargets, IsOutcome, marked, report}
use Rattle.def_rules.specs.Start.{start}
use Rattle.def_rules.specs.State.{IsBare, Setting, State, Effect, Moment, ImportDirective, Rearranges, after, only, order, with_content, with_state}
use Rattle.def_rules.specs.Fallback.{FallbackStep, IsQuiet, IsStuck}
use Rattle.def_rules.specs.InTurn.{AllLeaveOf, LeavesInTurn, empty, part}
use Rattle.def_rules.specs.Settled.{IsNoAttribute, IsSettled}
use Rattle.def_rules.specs.Waiting.{Attr, Derive, Expansion, FnLike, MacroDirective, MacroDirectiveKind}
use Rattle.def_rules.specs.Steps.{Reaches, Step, here, one, join, asks, copies, notes, expands, falls_back, performs, rearranges, records, reorders}
use Rattle.def_laws.proofs.CensoredLaws.{censored_closed, censored_coherent, censored_raised}
use Rattle.def_rules.specs.ProcMacros.{censored}
use Rattle.def_rules.specs.Targets.{leaves_out, target_of}
use Rattle.def_runs.proofs.TableLemmas.{is_false}

-- a list in its own order
pub same_order : {X : Type 0} (xs : List X) → IsPermutation xs xs
same_order xs = record { moves = []; below = tt; is = refl }

-- a state is bare where neither waits
abbrev pub are_bare : {s : State} → s.inner_calls ≡ [] → s.expansions ≡ [] → IsBare s
are_bare inner expansions = record { inner_calls = inner; expansions = expansions }

-- the moment after an import was recorded, with what its path gives
abbrev pub moment_after : Oracle → Moment → ImportDirective → List ImportDirective → Moment
moment_after oracle a directive rest = after a [] (import_effect oracle a.state directive rest (answer_now oracle a.state directive.import))

-- the first import that waits is recorded
unfoldable pub import_recorded : (oracle : Oracle) (a : Moment) (directive : ImportDirective) (rest : List ImportDirective) → a.tasks ≡ [] → IsBare a.state → a.state.imports ≡ directive ∷ rest
    → is_ready directive.recorded (answer_now oracle a.state directive.import) ≡ true
    → Reaches oracle a (moment_after oracle a directive rest)
import_recorded oracle a directive rest idle bare first ready =
    let stands = subst (λ ds. IsPermutation a.state.imports ds) first (same_order a.state.imports) in
    one (records _ idle (record { bare = bare; directive = directive; rest = rest; stands = stands; ready = ready; is = refl }) refl)

-- the moment after the first macro that waits had its turn, with what it is told
abbrev pub moment_asked : Oracle → Moment → MacroDirective → List MacroDirective → Moment
moment_asked oracle a directive rest = after a [] (turn_effect (told oracle a.state directive).state [] directive rest (told oracle a.state directive).turn)

-- the first macro that waits is asked
unfoldable pub macro_asked : (oracle : Oracle) (a : Moment) (directive : MacroDirective) (rest : List MacroDirective) → a.tasks ≡ [] → a.state.macros ≡ directive ∷ rest
    → Reaches oracle a (moment_asked oracle a directive rest)
macro_asked oracle a directive rest idle first = one (asks _ idle (record { before = []; directive = directive; behind = rest; stands = first; is = refl }) refl)

-- the moment after the first expansion that is to be walked had its turn
abbrev pub moment_expanded : Oracle → Moment → Expansion → List Expansion → Moment
moment_expanded oracle a expansion rest = after a [] (expansion_effect oracle (record a.state { expansions = rest }) expansion)

-- the first expansion has its turn
unfoldable pub expansion_taken : (oracle : Oracle) (a : Moment) (expansion : Expansion) (rest : List Expansion) → a.tasks ≡ [] → a.state.inner_calls ≡ [] → a.state.expansions ≡ expansion ∷ rest
    → Reaches oracle a (moment_expanded oracle a expansion rest)
expansion_taken oracle a expansion rest idle recorded first = one (expands _ idle (record { recorded = recorded; before = []; expansion = expansion; behind = rest; stands = first; is = refl }) refl)

-- one slot is copied along an edge
unfoldable pub copied_along : (oracle : Oracle) (a : Moment) (source : ModuleId) (index : ℕ) (edge : EdgeTo Visibility) (slot : Slot) → slice_get (a.state.content.edges source) index ≡ Some edge
    → Reaches oracle a (with_state a (with_content a.state (copied (order a.state) source edge slot a.state.content)))
copied_along oracle a source index edge slot stands = one (copies _ (record { source = source; index = index; edge = edge; slot = slot; stands = stands; after = refl }) refl)

-- no glob was recorded, and none is listed
pub no_targets : AreTargets (λ glob. None) []
unfolding IsDistinct
no_targets = record { once = tt; all = λ glob. refl }

-- whether an import that may still be recorded is not ready
abbrev pub waits_on : Oracle → State → ImportDirective → Bool
waits_on oracle s directive = not (is_ready directive.recorded (answer_now oracle s directive.import))

-- whether no import is ready, as a test that computes
abbrev pub none_is_ready : Oracle → State → Bool
none_is_ready oracle s = list_all (waits_on oracle s) s.imports

-- what passes at each of a list passes at what the list contains
passes_in : {X : Type 0} (test : X → Bool) (xs : List X) (x : X) → list_all test xs ≡ true → Contains xs x → test x ≡ true
passes_in test [] x all h = absurd (none_in x h)
passes_in test (y ∷ ys) x all h =
    elim (in_cases y ys x h) [
      | inl same ↦ subst (λ z. test z ≡ true) (sym same) (and_parts (test y) (list_all test ys) all).0
      | inr rest ↦ passes_in test ys x (and_parts (test y) (list_all test ys) all).1 rest
    ]

-- no import is ready where the test says so
pub settled_by_test : (oracle : Oracle) (s : State) → none_is_ready oracle s ≡ true → NoneReady oracle s
settled_by_test oracle s passes =
    record { none = λ directive h. is_false (is_ready directive.recorded (answer_now oracle s directive.import)) (passes_in (waits_on oracle s) s.imports directive passes h) }

-- whether what was told stays
abbrev pub stays : Turn → Bool
stays Stays = true
stays (GivesCall call) = false
stays (GivesDerive call) = false
stays (Replaces call) = false
stays (WalksItem derives written) = false

-- whether what waits is not for an attribute
abbrev pub waits_otherwise : MacroDirectiveKind → Bool
waits_otherwise (FnLike written) = true
waits_otherwise (Attr written) = false
waits_otherwise (Derive written) = true

-- whether each macro that waits stays, as a test that computes
abbrev pub all_stay : Oracle → State → Bool
all_stay oracle s = list_all (λ directive. stays (told oracle s directive).turn) s.macros

-- and whether none waits for an attribute
abbrev pub each_stays : Oracle → State → Bool
each_stays oracle s = all_stay oracle s && list_all (λ directive. waits_otherwise directive.kind) s.macros

stays_is : (turn : Turn) → stays turn ≡ true → turn ≡ Stays
stays_is Stays h = refl
stays_is (GivesCall call) h = cc
stays_is (GivesDerive call) h = cc
stays_is (Replaces call) h = cc
stays_is (WalksItem derives written) h = cc

-- each macro that waits stays where the test says so
pub all_stay_by_test : (oracle : Oracle) (s : State) → all_stay oracle s ≡ true → AllStay oracle s
all_stay_by_test oracle s passes =
    record { stay = λ directive h. stays_is (told oracle s directive).turn (passes_in (λ d. stays (told oracle s d).turn) s.macros directive passes h) }

otherwise_is : (kind : MacroDirectiveKind) → waits_otherwise kind ≡ true → IsNoAttribute kind
otherwise_is (FnLike written) h = tt
otherwise_is (Attr written) h = absurd cc
otherwise_is (Derive written) h = tt

-- the end of a run is settled where the tests say so
settled_by_tests : (w : Setting) (before : Session) (end : Moment) → Reaches w.oracle (start w before) end → end.tasks ≡ [] → none_is_ready w.oracle end.state ≡ true → each_stays w.oracle end.state ≡ true → IsSettled w.oracle end.state
settled_by_tests w before end runs done ready passes =
    let s : State = end.state in
    let both = and_parts (all_stay w.oracle s) (list_all (λ (directive : MacroDirective). waits_otherwise directive.kind) s.macros) passes in
    let otherwise : (directive : MacroDirective) → Contains s.macros directive → IsNoAttribute directive.kind =
    λ directive h. otherwise_is directive.kind (passes_in (λ (d : MacroDirective). waits_otherwise d.kind) s.macros directive both.1 h) in
    record {
      imports = settled_by_test w.oracle s ready;
      macros = all_stay_by_test w.oracle s both.0;
      attributes = otherwise;
      deferred = none_deferred_along w before end runs done otherwise;
    }

-- whether no macro is asked in a step, as a test that computes
abbrev pub asks_none : {oracle : Oracle} {a b : Moment} → Step oracle a b → Bool
asks_none (asks effect idle turn is) = false
asks_none _ = true

-- nor in a run
abbrev pub all_ask_none : {oracle : Oracle} {a b : Moment} → Reaches oracle a b → Bool
all_ask_none here = true
all_ask_none (one step) = asks_none step
all_ask_none (join first second) = all_ask_none first && all_ask_none second

-- none leaves where the test says so
none_leaves : {oracle : Oracle} {a b : Moment} (run : Reaches oracle a b) → all_ask_none run ≡ true → AllLeaveOf [] run
none_leaves here passes = tt
none_leaves (one (asks effect idle turn is)) passes = absurd cc
none_leaves (one (performs task rest effect first does is)) passes = tt
none_leaves (one (copies content copy is)) passes = tt
none_leaves (one (reorders macros same is)) passes = tt
none_leaves (one (rearranges state same is)) passes = tt
none_leaves (one (records effect idle step is)) passes = tt
none_leaves (one (notes idle is)) passes = tt
none_leaves (one (expands effect idle step is)) passes = tt
none_leaves (one (falls_back effect idle step is)) passes = tt
none_leaves (join first second) passes = let both = and_parts (all_ask_none first) (all_ask_none second) passes in (none_leaves first both.0, none_leaves second both.1)

pub none_leave_in_turn : {oracle : Oracle} {a b : Moment} (run : Reaches oracle a b) → all_ask_none run ≡ true → LeavesInTurn oracle a b run
none_leave_in_turn run passes = empty run (none_leaves run passes)

-- one that is asked where nothing moves but macros had waited there
pub asked_in_turn : (oracle : Oracle) (a : Moment) (directive : MacroDirective) (rest : List MacroDirective) (idle : a.tasks ≡ []) (first : a.state.macros ≡ directive ∷ rest) → IsQuiet oracle a.state
    → LeavesInTurn oracle a (moment_asked oracle a directive rest) (macro_asked oracle a directive rest idle first)
unfolding macro_asked
asked_in_turn oracle a directive rest idle first quiet = part _ idle quiet (λ leaves. subst (λ ds. Contains ds directive) (sym first) (first_in directive rest))

-- nothing waits for its turn: no import, no macro and no expansion, nor any derive for its item, nor a call to be recorded
abbrev pub NoneWaits : State → Type 0
NoneWaits s = (s.imports ≡ []) × (s.macros ≡ []) × (s.expansions ≡ []) × (s.deferred ≡ []) × (s.inner_calls ≡ [])

-- nothing in any order is nothing
pub none_in_any_order : {X : Type 0} (ys : List X) → IsPermutation [] ys → ys ≡ []
none_in_any_order [] same = refl
none_in_any_order (y ∷ ys) same = absurd (none_in y (Contains-permutation (y ∷ ys) [] y (IsPermutation-sym [] (y ∷ ys) same) (first_in y ys)))

-- no import is recorded where none is left
pub none_recorded : (oracle : Oracle) (s : State) (effect : Effect) → s.imports ≡ [] → ImportStep oracle s effect → ⊥
none_recorded oracle s effect no_imports step =
    let none = none_in_any_order (step.directive ∷ step.rest) (subst (λ ds. IsPermutation ds (step.directive ∷ step.rest)) no_imports step.stands) in cc

-- nor where none is ready
pub none_recorded_unready : (oracle : Oracle) (s : State) (effect : Effect) → NoneReady oracle s → ImportStep oracle s effect → ⊥
none_recorded_unready oracle s effect none step =
    let all = step.directive ∷ step.rest in
    let not_ready = none.none step.directive (Contains-permutation all s.imports step.directive (IsPermutation-sym s.imports all step.stands) (first_in step.directive step.rest)) in
    let ready = step.ready in
    cc

-- a list with an element is not empty
no_element : {X : Type 0} (xs : List X) (x : X) (ys : List X) → [] ≡ xs ++ x ∷ ys → ⊥
no_element [] x ys h = cc
no_element (z ∷ zs) x ys h = cc

-- no macro is asked where none waits
pub none_asked : (oracle : Oracle) (s : State) (effect : Effect) → s.macros ≡ [] → MacroStep oracle s effect → ⊥
none_asked oracle s effect no_macros step = no_element step.before step.directive step.behind (sym no_macros ∙ step.stands)

-- nor is one given up
pub none_given_up : (oracle : Oracle) (s : State) (effect : Effect) → s.macros ≡ [] → FallbackStep oracle s effect → ⊥
none_given_up oracle s effect no_macros step = no_element step.before step.directive step.behind (sym no_macros ∙ step.stands)

-- and no expansion has its turn where none is to be walked
pub none_taken : (oracle : Oracle) (s : State) (effect : Effect) → s.expansions ≡ [] → ExpansionStep oracle s effect → ⊥
none_taken oracle s effect no_expansions step = no_element step.before step.expansion step.behind (sym no_expansions ∙ step.stands)

-- nothing waits where nothing did, when imports are put into another order
pub none_waits_rearranged : (s t : State) → NoneWaits s → Rearranges s t → NoneWaits t
none_waits_rearranged s t waits same = (
  none_in_any_order t.imports (subst (λ ps. IsPermutation ps t.imports) waits.0 same.imports),
  ap (λ (x : State). x.macros) same.rest ∙ waits.1,
  ap (λ (x : State). x.expansions) same.rest ∙ waits.2,
  ap (λ (x : State). x.deferred) same.rest ∙ waits.3,
  ap (λ (x : State). x.inner_calls) same.rest ∙ waits.4,
)

-- so it is when the macros are
pub none_waits_reordered : (s : State) (macros : List MacroDirective) → NoneWaits s → IsPermutation s.macros macros → NoneWaits (record s { macros = macros })
none_waits_reordered s macros waits same = (waits.0, none_in_any_order macros (subst (λ ms. IsPermutation ms macros) waits.1 same), waits.2, waits.3, waits.4)

-- where no call is to be recorded, none is
pub none_noted : (a : Moment) → a.tasks ≡ [] → a.state.inner_calls ≡ [] → after a [] (only (inner_recorded a.state)) ≡ a
none_noted a idle none = λ i. record { tasks = sym idle i; state = record a.state { map = recording_inner (none i) a.state.map; inner_calls = sym none i }; events = append-nil a.events i }

-- what is answered of an end, with this outcome
abbrev pub answer_of : Oracle → State → Outcome → Answer
answer_of oracle end outcome =
    record { map = marked end.map (unresolved_imports end.imports); content = censored end; local = end.local; outcome = outcome; diagnostics = report oracle end }

-- the answer of a run's end is right where macros leave in turn in the run, names are closed, coherent and raised at the end, no call is left to be recorded and no expansion, no import is ready and no macro is given a call
pub answers : (w : Setting) (before : Session) (end : Moment) (outcome : Outcome) (runs : Reaches w.oracle (start w before) end) → LeavesInTurn w.oracle (start w before) end runs → end.tasks ≡ [] → IsBare end.state
    → none_is_ready w.oracle end.state ≡ true → each_stays w.oracle end.state ≡ true
    → outcome.limit_met ≡ false → IsOutcome end.state outcome
    → IsClosed (order end.state) (leaves_out end.state) end.state.content
    → IsCoherent (order end.state) (leaves_out end.state) (target_of end.state.map.id end.state.targets) end.state.content
    → ((importer : ModuleId) (slot : Slot) → IsRaisedAt (order end.state) end.state.content importer slot)
    → Answers w before end.state.session (answer_of w.oracle end.state outcome)
answers w before end outcome runs in_turn done bare ready given unmet shown closed coherent raised =
    let settled = settled_by_test w.oracle end.state ready in
    record {
      run = record { end = end; runs = runs; done = done; bare = bare };
      session = refl;
      answered = record { map = refl; content = refl; local = refl; outcome = shown };
      closed = censored_closed end.state (leaves_out end.state) closed;
      coherent = censored_coherent end.state (leaves_out end.state) (target_of end.state.map.id end.state.targets) coherent;
      raised = λ importer slot elsewhere kept. censored_raised end.state importer slot elsewhere (raised importer slot);
      declared = declared_along runs refl refl;
      was_put = was_put_along runs refl refl;
      explicit_stays = λ a b run. explicit_stays_along run.goes_on;
      in_turn = in_turn;
      limit = λ met. absurd (true≢false (sym met ∙ unmet));
      settled = λ unmet. settled_by_tests w before end runs done ready given;
      every_namespace = λ unmet. every_namespace_along runs refl refl done settled;
      reported = refl;
    }

-- no edge stands
abbrev NoEdge : Content Visibility → Type 0
NoEdge c = (source : ModuleId) → c.edges source ≡ []

-- names are closed, coherent and raised where no edge stands and no glob was recorded
closed_without : (o : Order Visibility) (left_out : ModuleId → Bool) (c : Content Visibility) → NoEdge c → IsClosed o left_out c
closed_without o left_out c none source index edge slot b at left h sees =
    let at_none = sym (ap (λ es. slice_get es index) (none source)) ∙ at in absurd cc

coherent_without : (o : Order Visibility) (left_out : ModuleId → Bool) (c : Content Visibility) (s : State) → s.targets ≡ (λ glob. None) → IsCoherent o left_out (target_of s.map.id s.targets) c
coherent_without o left_out c s none = subst (λ ts. IsCoherent o left_out (target_of s.map.id ts) c) (sym none) (λ importer name ns b glob target at by leads. absurd cc)

raised_without : (o : Order Visibility) (c : Content Visibility) → NoEdge c → (importer : ModuleId) (slot : Slot) → IsRaisedAt o c importer slot
raised_without o c none importer slot source index edge at =
    let at_none = sym (ap (λ es. slice_get es index) (none source)) ∙ at in absurd cc

-- in a state without edges nothing moves but macros where no call is to be recorded, no expansion to be walked and the test says so
pub quiet_without : (oracle : Oracle) (s : State) → IsBare s → none_is_ready oracle s ≡ true → NoEdge s.content → IsQuiet oracle s
quiet_without oracle s bare ready none = record { closed = closed_without (order s) (leaves_out s) s.content none; imports = settled_by_test oracle s ready; bare = bare }

-- and it is stuck where each macro stays
pub stuck_without : (oracle : Oracle) (s : State) → IsBare s → none_is_ready oracle s ≡ true → all_stay oracle s ≡ true → NoEdge s.content → IsStuck oracle s
stuck_without oracle s bare ready stay none = record {
  quiet = quiet_without oracle s bare ready none;
  macros = all_stay_by_test oracle s stay;
}

-- so the answer of a run in which no glob was recorded is right where no call is left to be recorded and no expansion, no import is ready and no macro is given a call
pub answers_without : (w : Setting) (before : Session) (end : Moment) (outcome : Outcome) (runs : Reaches w.oracle (start w before) end) → LeavesInTurn w.oracle (start w before) end runs → end.tasks ≡ [] → IsBare end.state
    → none_is_ready w.oracle end.state ≡ true → each_stays w.oracle end.state ≡ true
    → outcome.limit_met ≡ false → IsOutcome end.state outcome → NoEdge end.state.content → end.state.targets ≡ (λ glob. None)
    → Answers w before end.state.session (answer_of w.oracle end.state outcome)
answers_without w before end outcome runs in_turn done bare ready given unmet shown none no_target =
    answers w before end outcome runs in_turn done bare ready given unmet shown
    (closed_without (order end.state) (leaves_out end.state) end.state.content none)
    (coherent_without (order end.state) (leaves_out end.state) end.state.content end.state no_target)
    (raised_without (order end.state) end.state.content none)
