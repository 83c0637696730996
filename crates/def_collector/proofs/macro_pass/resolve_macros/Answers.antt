use Rattle.std.proofs.Common.{[], ap, arith, false, map, refl, subst, ◌∙◌}
use Rattle.def_calls.specs.Shown.{expansion_shown, macros_in}
use Rattle.def_collector.specs.Collector.{state_of}
use Rattle.def_collector.specs.Passes.{HadTurns}
use Rattle.def_interner.specs.Session.{session_of}
use Rattle.def_interner.specs.SessionLaws.{adds_trans}
use Rattle.def_laws.proofs.PassLaws.{collects_ordered, expansions_same, ordered_work}
use Rattle.def_rules.specs.State.{State}
use Rattle.def_collector.proofs.MacroPassLemmas.{asked_first_order, gets_stuck, makes_round}
use Rattle.def_collector.proofs.macro_pass.resolve_macros.Goals as goal

pub returns-then-not-branch-clause-stuck : goal.returns-then-not-branch-clause-stuck
returns-then-not-branch-clause-stuck g c = λ was.
    let oracle = g.D.SourceDatabase.oracle c.args.db.now in
    let s : State = state_of c.args.collector.now c.args.session.now in
    let t : State = state_of c.ask_macros.new.collector c.ask_macros.new.session in
    gets_stuck oracle s t c.requires.sound c.requires.ready c.requires.bare (subst (λ m. HadTurns oracle s [] m t) c.if-not-branch.true c.in_ok-ask_macros.ensures.turns) c.in_ok-ask_macros.ensures.recorded

pub returns-then-not-branch-clause-bare : goal.returns-then-not-branch-clause-bare
returns-then-not-branch-clause-bare g c =
    let oracle = g.D.SourceDatabase.oracle c.args.db.now in
    let s : State = state_of c.args.collector.now c.args.session.now in
    let t : State = state_of c.ask_macros.new.collector c.ask_macros.new.session in
    let turns : HadTurns oracle s [] false t = subst (λ m. HadTurns oracle s [] m t) c.if-not-branch.true c.in_ok-ask_macros.ensures.turns in
    record { inner_calls = c.in_ok-ask_macros.ensures.recorded; expansions = expansions_same oracle s t (turns.still refl) ∙ c.requires.bare.expansions }

pub returns-clause-round : goal.returns-clause-round
returns-clause-round g c = λ was.
    let oracle = g.D.SourceDatabase.oracle c.args.db.now in
    let s : State = state_of c.args.collector.now c.args.session.now in
    let t : State = state_of c.ask_macros.new.collector c.ask_macros.new.session in
    let u : State = state_of (record c.ask_macros.new.collector { unresolved_macros = c.put_asked_first.new.directives }) c.ask_macros.new.session in
    let v : State = state_of c.walk_expansions.new.collector c.walk_expansions.new.session in
    let order = asked_first_order c.ask_macros.new.collector.unresolved_macros.items c.put_asked_first.new.directives.items c.in_ok-put_asked_first.ensures in
    let as_much = ordered_work t (macros_in c.put_asked_first.new.directives.items) order in
    makes_round oracle s t c.requires.sound c.requires.ready c.requires.bare (subst (λ m. HadTurns oracle s [] m t) c.if-not-branch.false c.in_ok-ask_macros.ensures.turns)
    u v (collects_ordered oracle t (macros_in c.put_asked_first.new.directives.items) order) (omega (arith, as_much)) c.in_ok-walk_expansions.ensures.run c.in_ok-walk_expansions.ensures.fewer

pub returns-clause-bare : goal.returns-clause-bare
returns-clause-bare g c = record { inner_calls = c.in_ok-walk_expansions.ensures.recorded; expansions = ap (map expansion_shown) c.in_ok-walk_expansions.ensures.expanded }

pub returns-in_err-walk_expansions-clause-session : goal.returns-in_err-walk_expansions-clause-session
returns-in_err-walk_expansions-clause-session g c =
    adds_trans (session_of c.args.session.now) (session_of c.ask_macros.new.session) (session_of c.walk_expansions.new.session) c.ask_macros.ensures.session c.walk_expansions.ensures.session

pub returns-clause-session : goal.returns-clause-session
returns-clause-session g c =
    adds_trans (session_of c.args.session.now) (session_of c.ask_macros.new.session) (session_of c.walk_expansions.new.session) c.ask_macros.ensures.session c.walk_expansions.ensures.session
