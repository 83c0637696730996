use Rattle.std.proofs.Common.{arith}
use Rattle.def_calls.specs.Shown.{macro_directive_of, macros_in, written_attr_of}
use Rattle.def_collector.specs.Collector.{state_of}
use Rattle.def_rules.specs.State.{State}
use Rattle.def_collector.proofs.FallbackLemmas.{gave_up, gave_up_bare}
use Rattle.def_collector.proofs.MacroPassLemmas.{few_macros}
use Rattle.def_collector.proofs.fallback.fall_back.Goals as goal

pub returns-in_default-clause-none : goal.returns-in_default-clause-none
returns-in_default-clause-none g c = λ was. c.in_default.ensures.none

pub returns-clause-given_up : goal.returns-clause-given_up
returns-clause-given_up g c =
    let oracle = g.D.SourceDatabase.oracle c.args.db.now in
    let s : State = state_of c.args.collector.now c.args.session.now in
    let d = macro_directive_of c.in-Some.item.directive in
    let written = written_attr_of c.in-Some.item.written in
    let up = c.in_ok-give_up.ensures s in
    let passed : State = state_of (record c.args.collector.now { unresolved_macros = c.give_up.new.directives; item_attrs = c.give_up.new.item_attrs; diagnostics = c.give_up.new.diagnostics }) c.args.session.now in
    let t : State = state_of c.walk_again.new.collector c.walk_again.new.session in
    λ moved. gave_up oracle s passed t up.before d up.behind written up.stands c.in-Some.ensures.attr up.is
    c.in_ok-walk_again.ensures.run (macros_in c.fill_gap.new.directives.items) c.in_ok-fill_gap.ensures.order c.requires.stuck (omega (arith, c.walk_again.ensures.depth)) (few_macros c.walk_again.new.collector.unresolved_macros)

pub returns-clause-bare : goal.returns-clause-bare
returns-clause-bare g c =
    let oracle = g.D.SourceDatabase.oracle c.args.db.now in
    let s : State = state_of c.args.collector.now c.args.session.now in
    let d = macro_directive_of c.in-Some.item.directive in
    let written = written_attr_of c.in-Some.item.written in
    let up = c.in_ok-give_up.ensures s in
    let passed : State = state_of (record c.args.collector.now { unresolved_macros = c.give_up.new.directives; item_attrs = c.give_up.new.item_attrs; diagnostics = c.give_up.new.diagnostics }) c.args.session.now in
    let t : State = state_of c.walk_again.new.collector c.walk_again.new.session in
    gave_up_bare oracle s passed t up.before d up.behind written up.stands c.in-Some.ensures.attr up.is
    c.in_ok-walk_again.ensures.run (macros_in c.fill_gap.new.directives.items) c.in_ok-fill_gap.ensures.order c.requires.bare
