use Rattle.def_calls.specs.Shown.{macro_directive_of}
use Rattle.macro_calls.specs.Written.{written_of}
use Rattle.def_collector.specs.Collector.{state_of}
use Rattle.def_map.specs.Asking.{world_lent}
use Rattle.def_sources.specs.Tables.{bound_by}
use Rattle.def_rules.specs.State.{State}
use Rattle.def_collector.proofs.MacroPassLemmas.{both_ok}
use Rattle.def_collector.proofs.TurnLemmas.{turn_answered}
use Rattle.def_collector.proofs.macro_pass.ask_call.Goals as goal

pub returns-clause-asked : goal.returns-clause-asked
returns-clause-asked g c =
    let oracle = g.D.SourceDatabase.oracle c.args.db.now in
    let s : State = state_of c.args.collector.now c.args.session.now in
    let d = macro_directive_of c.args.directive in
    let w = world_lent g.D.SourceDatabase.oracle bound_by c.world-world.result in
    both_ok c.settle_call.result c.settle_call.ensures.turned c.settle_call.ensures.given (λ moved turned known.
    turn_answered oracle s d w (written_of c.args.written) c.in_ok-answer.answer c.requires.kind c.world-world.ensures c.in_ok-answer.ensures _ (turned s) moved (known s))
