-- A pass over the macros that wait: turns in a row, and the expansions behind them.
use Rattle.std.proofs.Common.{◌≡◌, ◌<◌, ◌≤◌, ◌+◌, ◌^◌, ℕ, Bool, true, false, true≢false, Contains, List, [], ◌∷◌, length, map, slice_get, Option, Some, ◌++◌, Result, Ok, Err, get_or, refl, sym, ap, subst, ◌∙◌, append-nil, append_assoc, take, arith}
use Rattle.std.specs.List.{flat_map}
use Rattle.std.specs.Prelude.{IfOk, IsPermutation, OnOk, filter, not}
use Rattle.std.specs.declared.collections.VecDeque.{VecDeque}
use Rattle.std.specs.declared.alloc.Global.{Global}
use Rattle.std.proofs.lemmas.List.{flat_map_more, get_or_default, length-map}
use Rattle.std.proofs.lemmas.List.Elements.{All-append, All-cons, All-contains, All-nil, Contains-append_right}
use Rattle.std.proofs.lemmas.List.Sorted.{IsPermutation-filter_both, IsPermutation-map, IsPermutation-sym, IsPermutation-to_front}
use Rattle.std.proofs.lemmas.Option.{slice_get-get_or}
use Rattle.def_calls.specs.declared.directives.Expansion.{Expansion}
use Rattle.def_calls.specs.declared.directives.MacroDirective.{MacroDirective}
use Rattle.def_calls.specs.Shown.{expansion_shown, macro_directive_of, macros_in}
use Rattle.def_interner.specs.declared.interner.Interner.{Interner}
use Rattle.def_map.specs.Oracle.{Oracle}
use Rattle.def_collector.specs.declared.collector.DefCollector.{DefCollector}
use Rattle.def_collector.specs.Collector.{state_of, with_reported}
use Rattle.def_collector.specs.Passes.{HadTurn, HadTurns, HasLeft, HasStayed, OnlyAsked}
use Rattle.def_rounds.specs.Rounds.{GetsStuck, MakesRound}
use Rattle.def_rules.specs.Calls.{inner_recorded}
use Rattle.def_rules.specs.Directives.{Stays, answer_in, told}
use Rattle.def_rules.specs.Fallback.{IsQuiet}
use Rattle.def_rules.specs.Recording.{NoneReady}
use Rattle.def_rules.specs.State as rules
use Rattle.def_rules.specs.State.{IsBare, State, world}
use Rattle.def_rules.specs.Waiting as waits
use Rattle.def_laws.specs.Depths.{waiting_work}
use Rattle.def_laws.specs.Performs.{IsExpanded}
use Rattle.def_laws.specs.Runs.{Collects, CollectsCalmly, InTurns, LeaveOf}
use Rattle.def_laws.specs.Sound.{IsSoundWith}
use Rattle.def_laws.proofs.InTurnLaws.{leave_on, turn_part}
use Rattle.def_laws.proofs.PassLaws.{collects_asked, collects_expanded, collects_noted, collects_ordered, expanded_lighter, expanded_recorded, expansions_same, invokes_noted, invokes_ordered, invokes_refl, invokes_trans, leave_asked, none_ready_same, turn_same, work_same}
use Rattle.def_laws.proofs.RoundsLaws.{round_made, turns_begin, turns_leave, turns_on, turns_stay}
use Rattle.def_laws.proofs.StepsLaws.{calmly_trans, collects_refl, collects_sound, collects_trans, leave_refl, leave_trans}
use Rattle.def_calls.proofs.WaitingLemmas.{macros_all, macros_more}
use Rattle.def_oracle.specs.declared.source_database.CallAnswer.{CallAnswer}
use Rattle.def_oracle.specs.declared.source_database.UnresolvedMacro.{UnresolvedMacro}
use Rattle.def_sources.specs.Sources.{World}
use Rattle.def_rules.specs.Report.{answer_report, kind_report, macro_report}

-- Results and lists

-- what follows from what holds of a value, and from what holds where there is one
pub both_ok : {T E P : Type 0} {Q R : T → Type 0} (r : Result T E) → OnOk r P → IfOk r Q → ((x : T) → P → Q x → R x) → IfOk r R
both_ok (Ok x) p q f = f x p q
both_ok (Err e) p q f = q

-- within a list an element stands at each place
there : {X : Type 0} (xs : List X) (i : ℕ) → i < length xs → (x : X) × (slice_get xs i ≡ Some x) × (x ≡ get_or xs i x)
there [] i within = absurd (omega (arith, within))
there (y ∷ ys) i within = (get_or (y ∷ ys) i y, slice_get-get_or (y ∷ ys) i y within, get_or_default (y ∷ ys) i y (get_or (y ∷ ys) i y) within)

-- at one place stands one element
pub one_at : {X : Type 0} (o : Option X) (x y : X) → o ≡ Some x → o ≡ Some y → x ≡ y
one_at o x y first second = let twice : Some x ≡ Some y = sym first ∙ second in cc

-- fewer wait than a machine can number
pub few_macros : (v : VecDeque MacroDirective Global) → length (macros_in v.items) < 2 ^ 64
few_macros v =
    let shown = length-map v.items macro_directive_of in
    let within = v.ok.0 in
    let cap = v.small.1 in
    let small = v.small.0 in
    omega (arith, shown, within, cap, small)

-- Turns in a row

-- none
pub no_turns : (oracle : Oracle) (s : State) → HadTurns oracle s s.macros false s
no_turns oracle s = record {
  run = collects_refl [] s;
  turns = turns_begin s;
  waited = λ d there. there;
  leave = leave_refl oracle s.macros [] s;
  rest = [];
  macros = sym (append-nil s.macros);
  fewer = λ yes. absurd (true≢false (sym yes));
  still = λ no. invokes_refl s;
  stay = λ no. All-nil (λ d. (told oracle s d).turn ≡ Stays);
}

module _ (oracle : Oracle) (start s t : State) (left : List waits.MacroDirective) (moved : Bool) where
  -- as much waits as at first, or less
  no_more : (so_far : HadTurns oracle start left moved s) (was : Bool) → moved ≡ was → waiting_work s ≤ waiting_work start
  no_more so_far true is = let less = so_far.fewer is in omega (arith, less)
  no_more so_far false is = let same = work_same oracle start s (so_far.still is) in omega (arith, same)

module _ (oracle : Oracle) (start s t : State) (d : waits.MacroDirective) (left : List waits.MacroDirective) (moved : Bool) (so_far : HadTurns oracle start (d ∷ left) moved s) where
  -- those behind it waited too
  waited_behind : (x : waits.MacroDirective) → Contains left x → Contains start.macros x
  waited_behind x there = so_far.waited x (Contains-append_right (d ∷ []) left x there)

  -- one leaves
  pub turns_left : HasLeft oracle s t → HadTurns oracle start left true t
  turns_left has =
      let both : has.first ∷ has.others ≡ d ∷ (left ++ so_far.rest) = sym has.stands ∙ so_far.macros in
      let same : d ≡ has.first = cc in
      let others : has.others ≡ left ++ so_far.rest = cc in
      let turns : InTurns so_far.run.runs (has.first ∷ left) moved = subst (λ x. InTurns so_far.run.runs (x ∷ left) moved) same so_far.turns in
      let asked = collects_asked oracle s [] has.first has.others has.stands in
      let waited : Contains start.macros has.first = subst (λ x. Contains start.macros x) same (so_far.waited d (0, omega arith, refl)) in
      let leave : LeaveOf start.macros asked.runs = leave_asked oracle s [] has.first has.others has.stands start.macros waited in
      record {
        run = collects_trans (collects_trans so_far.run asked) has.rest.collects;
        turns = turns_on (collects_trans so_far.run asked) (turns_leave so_far.run has.first turns has.others has.stands has.turn) has.rest.collects;
        waited = waited_behind;
        leave = leave_on start.macros (collects_trans so_far.run asked) has.rest (leave_trans start.macros so_far.run asked so_far.leave leave);
        rest = so_far.rest ++ has.more;
        macros = has.macros ∙ ap (λ ds. ds ++ has.more) others ∙ append_assoc left so_far.rest has.more;
        fewer = λ yes. let most = no_more oracle start s t (d ∷ left) moved so_far moved refl in let less = has.fewer in omega (arith, less, most);
        still = λ no. absurd (true≢false no);
        stay = λ no. absurd (true≢false no);
      }

  -- one stays
  pub turns_kept : HasStayed oracle s t → HadTurns oracle start left moved t
  turns_kept has =
      let both : has.first ∷ has.others ≡ d ∷ (left ++ so_far.rest) = sym has.stands ∙ so_far.macros in
      let same : d ≡ has.first = cc in
      let others : has.others ≡ left ++ so_far.rest = cc in
      let turns : InTurns so_far.run.runs (has.first ∷ left) moved = subst (λ x. InTurns so_far.run.runs (x ∷ left) moved) same so_far.turns in
      let waits : Contains s.macros has.first = subst (λ ds. Contains ds has.first) (sym has.stands) (0, omega arith, refl) in
      let as_much = work_same oracle s t has.asked.only in
      record {
        run = collects_trans so_far.run has.asked.run.collects;
        turns = turns_on so_far.run (turns_stay so_far.run has.first turns waits has.asked.turn) has.asked.run.collects;
        waited = waited_behind;
        leave = leave_on start.macros so_far.run has.asked.run so_far.leave;
        rest = so_far.rest ++ has.first ∷ [];
        macros = has.macros ∙ ap (λ ds. ds ++ has.first ∷ []) others ∙ append_assoc left so_far.rest (has.first ∷ []);
        fewer = λ yes. let less = so_far.fewer yes in omega (arith, less, as_much);
        still = λ no. invokes_trans start s t (so_far.still no) has.asked.only;
        stay = λ no.
            All-append (λ x. (told oracle start x).turn ≡ Stays) so_far.rest (has.first ∷ []) (so_far.stay no)
            (All-cons (λ x. (told oracle start x).turn ≡ Stays) has.first [] (sym (turn_same oracle start s (so_far.still no) has.first) ∙ has.asked.turn) (All-nil (λ x. (told oracle start x).turn ≡ Stays)));
      }

-- behind them the calls are recorded that were made for arguments
pub turns_noted : (oracle : Oracle) (start s : State) (left : List waits.MacroDirective) (moved : Bool) → HadTurns oracle start left moved s → HadTurns oracle start left moved (inner_recorded s)
turns_noted oracle start s left moved so_far =
    let noted : CollectsCalmly oracle [] s [] (inner_recorded s) = collects_noted oracle s in
    record {
      run = collects_trans so_far.run noted.collects;
      turns = turns_on so_far.run so_far.turns noted.collects;
      waited = so_far.waited;
      leave = leave_on start.macros so_far.run noted so_far.leave;
      rest = so_far.rest;
      macros = so_far.macros;
      fewer = so_far.fewer;
      still = λ no. invokes_trans start s (inner_recorded s) (so_far.still no) (invokes_noted s);
      stay = so_far.stay;
    }

-- the first left
pub had_turn_left : (oracle : Oracle) (s t : State) → HasLeft oracle s t → HadTurn oracle s true t
had_turn_left oracle s t left = record { stayed = λ no. absurd (true≢false no); left = λ yes. left }

-- or stays
pub had_turn_stayed : (oracle : Oracle) (s t : State) → HasStayed oracle s t → HadTurn oracle s false t
had_turn_stayed oracle s t stayed = record { stayed = λ no. stayed; left = λ yes. absurd (true≢false (sym yes)) }

-- one that was asked and stays goes behind the others
pub stays_behind : (oracle : Oracle) (s u t : rules.State) (d : waits.MacroDirective) (others : List waits.MacroDirective) → s.macros ≡ d ∷ others → OnlyAsked oracle s d u → u.macros ≡ d ∷ others → t ≡ record u { macros = others ++ d ∷ [] }
    → HasStayed oracle s t
stays_behind oracle s u t d others stands asked same is =
    let order : IsPermutation u.macros (others ++ d ∷ []) = subst (λ ds. IsPermutation ds (others ++ d ∷ [])) (sym same) (IsPermutation-sym (others ++ d ∷ []) (d ∷ others) (IsPermutation-to_front others d)) in
    record {
      first = d;
      others = others;
      stands = stands;
      asked = subst (OnlyAsked oracle s d) (sym is) (record {
        turn = asked.turn;
        run = calmly_trans asked.run (collects_ordered oracle u (others ++ d ∷ []) order);
        only = invokes_trans s u (record u { macros = others ++ d ∷ [] }) asked.only (invokes_ordered u (others ++ d ∷ []) order);
      });
      macros = ap (λ (x : rules.State). x.macros) is;
    }

-- those that had their turn go before the others
pub asked_first_order : (old new : List MacroDirective) → new ≡ filter (λ (d : MacroDirective). d.asked) old ++ filter (λ (d : MacroDirective). not d.asked) old → IsPermutation (macros_in old) (macros_in new)
asked_first_order old new is =
    let asked = λ (d : MacroDirective). d.asked in
    let waits = λ (d : MacroDirective). not d.asked in
    subst (λ ds. IsPermutation (macros_in old) (macros_in ds)) (sym is) (IsPermutation-map macro_directive_of old (filter asked old ++ filter waits old) (IsPermutation-filter_both asked waits (λ d. refl) old))

-- What a pass leaves

-- where all had their turns and none left, the state is stuck
module _ (oracle : Oracle) (s t : State) (sound : IsSoundWith [] s) (ready : NoneReady oracle s) (bare : IsBare s) where
  at_first : IsQuiet oracle s
  at_first = record { closed = sound.sound.closed; imports = ready; bare = bare }

  pub gets_stuck : HadTurns oracle s [] false t → t.inner_calls ≡ [] → GetsStuck oracle s t
  gets_stuck turns recorded =
      let still = turns.still refl in
      record {
        run = turns.run;
        in_turn = turn_part turns.run at_first turns.leave;
        stuck = record {
          quiet = record { closed = (collects_sound turns.run sound).sound.closed; imports = none_ready_same oracle s t still ready; bare = record { inner_calls = recorded; expansions = expansions_same oracle s t still ∙ bare.expansions } };
          macros = record {
            stay = λ d there. turn_same oracle s t still d ∙ All-contains (λ x. (told oracle s x).turn ≡ Stays) turns.rest d (turns.stay refl) (subst (λ ds. Contains ds d) turns.macros there);
          };
        };
        as_much = work_same oracle s t still;
      }

  -- where one left, what is done behind the turns makes a round of them
  pub makes_round : HadTurns oracle s [] true t → (u v : State) → CollectsCalmly oracle [] t [] u → waiting_work u ≤ waiting_work t → CollectsCalmly oracle [] u [] v → waiting_work v ≤ waiting_work u → MakesRound oracle s v
  makes_round turns u v ordered as_much walked no_more =
      let first : Collects oracle [] s [] u = collects_trans turns.run ordered.collects in
      let whole : Collects oracle [] s [] v = collects_trans first walked.collects in
      record {
        run = whole;
        in_turn = turn_part whole at_first (leave_on s.macros first walked (leave_on s.macros turns.run ordered turns.leave));
        round = round_made s v whole at_first (turns_on first (turns_on turns.run turns.turns ordered.collects) walked.collects);
        fewer = let less = turns.fewer refl in omega (arith, less, as_much, no_more);
      }

-- Expansions

module _ (oracle : Oracle) (s t : rules.State) (e : Expansion) (rest : List Expansion) (recorded : s.inner_calls ≡ []) (first : s.expansions ≡ expansion_shown e ∷ map expansion_shown rest)
    (walked : IsExpanded oracle (expansion_shown e) (record s { expansions = map expansion_shown rest }) t) where
  pub walked_run : CollectsCalmly oracle [] s [] t
  walked_run = collects_expanded oracle s t (expansion_shown e) (map expansion_shown rest) walked.inner recorded first walked.begun walked.opened walked.leads

  pub walked_recorded : t.inner_calls ≡ []
  walked_recorded = expanded_recorded oracle s t (expansion_shown e) (map expansion_shown rest) walked.inner recorded first walked.begun walked.opened walked.leads

  pub walked_fewer : e.depth < 2 ^ 32 → length t.macros < 2 ^ 64 → waiting_work t < waiting_work s
  walked_fewer small few = expanded_lighter oracle s t (expansion_shown e) (map expansion_shown rest) walked.inner recorded first walked.begun walked.opened walked.leads (omega (arith, small)) few

-- Reports

-- a call that is left over is reported by the answer that the code's world shows
pub call_report : (oracle : Oracle) (s : rules.State) (w : World) (d : waits.MacroDirective) (written : waits.WrittenCall) (answer : Result CallAnswer UnresolvedMacro) → d.kind ≡ waits.FnLike written → w ≡ world oracle s
    → answer ≡ answer_in w s.map d written → answer_report d answer ≡ macro_report oracle s d
call_report oracle s w d written answer kind same gives =
    ap (answer_report d) (gives ∙ ap (λ x. answer_in x s.map d written) same) ∙ sym (ap (kind_report oracle s d) kind)

-- what was reported of those that are left over up to one
pub record ReportedSoFar (oracle : Oracle) (session : Interner) (start c : DefCollector) (i : ℕ) : Type 0 where
  pub frame : c ≡ record start { diagnostics = c.diagnostics }
  pub told : c.diagnostics.items ≡ start.diagnostics.items ++ flat_map (macro_report oracle (state_of start session)) (macros_in (take i start.unresolved_macros.items))

pub reported_none : (oracle : Oracle) (session : Interner) (c : DefCollector) → ReportedSoFar oracle session c c 0
reported_none oracle session c = record { frame = refl; told = sym (append-nil c.diagnostics.items) }

module _ (oracle : Oracle) (session : Interner) (start c next : DefCollector) (i : ℕ) (so_far : ReportedSoFar oracle session start c i) (within : i < length start.unresolved_macros.items)
    (frame : next ≡ record c { diagnostics = next.diagnostics })
    (told : (d : MacroDirective) → slice_get c.unresolved_macros.items i ≡ Some d → next.diagnostics.items ≡ c.diagnostics.items ++ macro_report oracle (state_of c session) (macro_directive_of d)) where
  -- one more
  pub reported_more : ReportedSoFar oracle session start next (i + 1)
  reported_more =
      let all = start.unresolved_macros.items in
      let report = macro_report oracle (state_of start session) in
      let found = there all i within in
      let d : MacroDirective = found.0 in
      let at : slice_get c.unresolved_macros.items i ≡ Some d = ap (λ (x : DefCollector). slice_get x.unresolved_macros.items i) so_far.frame ∙ found.1 in
      let more : macros_in (take (i + 1) all) ≡ macros_in (take i all) ++ macro_directive_of d ∷ [] = macros_more all i d within found.2 in
      record {
        frame = frame ∙ ap (λ (x : DefCollector). record x { diagnostics = next.diagnostics }) so_far.frame;
        told = told d at
            ∙ ap (λ (x : DefCollector). c.diagnostics.items ++ macro_report oracle (state_of x session) (macro_directive_of d)) so_far.frame
            ∙ ap (λ l. l ++ report (macro_directive_of d)) so_far.told
            ∙ append_assoc start.diagnostics.items (flat_map report (macros_in (take i all))) (report (macro_directive_of d))
            ∙ ap (λ l. start.diagnostics.items ++ l) (flat_map_more report [] (macros_in (take i all)) (macro_directive_of d) ∙ ap (flat_map report) (sym more));
      }

-- all of them
pub reported_all : (oracle : Oracle) (session : Interner) (start c : DefCollector) (i : ℕ) → ReportedSoFar oracle session start c i → length start.unresolved_macros.items ≤ i → state_of c session ≡ with_reported oracle (state_of start session)
reported_all oracle session start c i so_far all =
    ap (λ (x : DefCollector). state_of x session) so_far.frame
    ∙ ap (λ ds. record (state_of start session) { diagnostics = ds })
    (so_far.told ∙ ap (λ ms. start.diagnostics.items ++ flat_map (macro_report oracle (state_of start session)) ms) (macros_all start.unresolved_macros.items i all))
