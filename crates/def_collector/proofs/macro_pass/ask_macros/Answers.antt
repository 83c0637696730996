use Rattle.std.proofs.Common.{◌+◌, ◌<◌, [], ◌∷◌, ap, arith, drop, get_or, length, subst, sym}
use Rattle.std.proofs.lemmas.List.{drop_all, drop_more, length-append, length-drop, length-map}
use Rattle.def_calls.specs.Shown.{macro_directive_of, macros_in}
use Rattle.def_collector.specs.Collector.{state_of}
use Rattle.def_collector.specs.Passes.{HadTurn, HadTurns}
use Rattle.def_interner.specs.Session.{session_of}
use Rattle.def_interner.specs.SessionLaws.{adds_refl, adds_trans}
use Rattle.def_rules.specs.State.{State}
use Rattle.def_collector.proofs.MacroPassLemmas.{no_turns, turns_kept, turns_left, turns_noted}
use Rattle.def_collector.proofs.macro_pass.ask_macros.Goals.{else-branch, then-branch}
use Rattle.def_collector.proofs.macro_pass.ask_macros.Goals as goal

pub asked-init : goal.asked-init
asked-init g c = record { so_far = no_turns (g.D.SourceDatabase.oracle c.args.db.now) (state_of c.args.collector.now c.args.session.now); adds = adds_refl (session_of c.args.session.now) }

pub ask_macro-requires : goal.ask_macro-requires
ask_macro-requires g c =
    let all = macros_in c.args.collector.now.unresolved_macros.items in
    let now = c.asked.collector.unresolved_macros.items in
    let left = drop c.asked.i all in
    let rest = c.asked.invariant.so_far.rest in
    let long = length-map c.args.collector.now.unresolved_macros.items macro_directive_of in
    let shown = length-map now macro_directive_of in
    let whole = ap length c.asked.invariant.so_far.macros in
    let parts = length-append left rest in
    let dropped = length-drop c.asked.i all in
    let held = c.args.collector.now.unresolved_macros.ok.0 in
    let end = c.len-i-end.ensures in
    let test = c.asked-test.true in
    omega (arith, long, shown, whole, parts, dropped, held, end, test)

pub asked-preserved : goal.asked-preserved
asked-preserved g c =
    let oracle = g.D.SourceDatabase.oracle c.args.db.now in
    let start : State = state_of c.args.collector.now c.args.session.now in
    let now : State = state_of c.asked.collector c.asked.session in
    let next : State = state_of c.ask_macro.new.collector c.ask_macro.new.session in
    let all = macros_in c.args.collector.now.unresolved_macros.items in
    let left = drop (c.asked.i + 1) all in
    let long = length-map c.args.collector.now.unresolved_macros.items macro_directive_of in
    let held = c.args.collector.now.unresolved_macros.ok.0 in
    let end = c.len-i-end.ensures in
    let test = c.asked-test.true in
    let within : c.asked.i < length all = omega (arith, long, held, end, test) in
    let turn : HadTurn oracle now c.in_ok-ask_macro.field-0 next = c.in_ok-ask_macro.ensures.turn in
    record {
      so_far = elim c.if-branch.branch [
        | then-branch w ↦
            let has = turn.left w.if-branch.true in
            let d = get_or all c.asked.i has.first in
            let so_far : HadTurns oracle start (d ∷ left) c.asked.moved now = subst (λ ds. HadTurns oracle start ds c.asked.moved now) (drop_more all c.asked.i has.first within) c.asked.invariant.so_far in
            subst (λ moved. HadTurns oracle start left moved next) (sym w.moved-is) (turns_left oracle start now next d left c.asked.moved so_far has)
        | else-branch w ↦
            let has = turn.stayed w.if-branch.false in
            let d = get_or all c.asked.i has.first in
            let so_far : HadTurns oracle start (d ∷ left) c.asked.moved now = subst (λ ds. HadTurns oracle start ds c.asked.moved now) (drop_more all c.asked.i has.first within) c.asked.invariant.so_far in
            subst (λ moved. HadTurns oracle start left moved next) (sym w.moved-is) (turns_kept oracle start now next d left c.asked.moved so_far has)
      ];
      adds = adds_trans (session_of c.args.session.now) (session_of c.asked.session) (session_of c.ask_macro.new.session) c.asked.invariant.adds c.ask_macro.ensures.session;
    }

pub returns-clause-turns : goal.returns-clause-turns
returns-clause-turns g c =
    let oracle = g.D.SourceDatabase.oracle c.args.db.now in
    let start : State = state_of c.args.collector.now c.args.session.now in
    let now : State = state_of c.asked.collector c.asked.session in
    let all = macros_in c.args.collector.now.unresolved_macros.items in
    let long = length-map c.args.collector.now.unresolved_macros.items macro_directive_of in
    let held = c.args.collector.now.unresolved_macros.ok.0 in
    let end = c.len-i-end.ensures in
    let test = c.asked-test.false in
    let turns : HadTurns oracle start [] c.asked.moved now = subst (λ ds. HadTurns oracle start ds c.asked.moved now) (drop_all c.asked.i all (omega (arith, long, held, end, test))) c.asked.invariant.so_far in
    subst (HadTurns oracle start [] c.asked.moved) (λ i. record now { map = sym c.in_ok-record_inner.ensures.recorded i; inner_calls = sym c.in_ok-record_inner.ensures.none i }) (turns_noted oracle start now [] c.asked.moved turns)

pub returns-in_err-ask_macro-clause-session : goal.returns-in_err-ask_macro-clause-session
returns-in_err-ask_macro-clause-session g c =
    adds_trans (session_of c.args.session.now) (session_of c.asked.session) (session_of c.ask_macro.new.session) c.asked.invariant.adds c.ask_macro.ensures.session
