use Rattle.std.proofs.Common.{true, [], ◌∷◌, ap, refl, ◌∙◌}
use Rattle.std.proofs.lemmas.List.{map-append}
use Rattle.def_calls.specs.Shown.{macro_directive_of, macros_in}
use Rattle.def_calls.proofs.WaitingLemmas.{first_is}
use Rattle.def_collector.specs.Collector.{state_of}
use Rattle.def_rules.specs.State.{State}
use Rattle.def_calls.proofs.WaitingLemmas.{read_at}
use Rattle.def_collector.proofs.MacroPassLemmas.{had_turn_left, had_turn_stayed, stays_behind}
use Rattle.def_collector.proofs.macro_pass.ask_macro.Goals as goal

pub returns-then-branch-clause-turn : goal.returns-then-branch-clause-turn
returns-then-branch-clause-turn g c =
    had_turn_left (g.D.SourceDatabase.oracle c.args.db.now) (state_of c.args.collector.now c.args.session.now) (state_of c.ask_directive.new.collector c.ask_directive.new.session)
    (c.in_ok-ask_directive.ensures.asked.left c.if-branch.true)

pub returns-clause-turn : goal.returns-clause-turn
returns-clause-turn g c =
    let oracle = g.D.SourceDatabase.oracle c.args.db.now in
    let s : State = state_of c.args.collector.now c.args.session.now in
    let u : State = state_of c.ask_directive.new.collector c.ask_directive.new.session in
    let t : State = state_of (record c.ask_directive.new.collector { unresolved_macros = c.stay.new.directives }) c.ask_directive.new.session in
    let directive = c.index-directive.result.now in
    let all = c.args.collector.now.unresolved_macros.items in
    let first = first_is all directive (read_at all 0 directive directive c.requires c.index-directive.ensures refl) in
    let same = c.in_ok-ask_directive.ensures.same c.if-branch.false ∙ first.1 in
    let behind = ap macros_in (c.in_ok-stay.ensures first.0 same) ∙ map-append macro_directive_of first.0 (record directive { asked = true } ∷ []) in
    had_turn_stayed oracle s t (stays_behind oracle s u t (macro_directive_of directive) (macros_in first.0) (ap macros_in first.1) (c.in_ok-ask_directive.ensures.asked.stayed c.if-branch.false)
    (ap macros_in same) (λ i. record u { macros = behind i }))
