use Rattle.def_calls.specs.Shown.{macro_directive_of, written_derive_of}
use Rattle.def_collector.specs.Collector.{state_of}
use Rattle.def_map.specs.Asking.{world_lent}
use Rattle.def_sources.specs.Tables.{bound_by}
use Rattle.def_rules.specs.State.{State}
use Rattle.def_collector.proofs.TurnLemmas.{derive_stays, had_nothing, turn_derived}
use Rattle.def_collector.proofs.macro_pass.ask_derive.Goals as goal

pub returns-in_default-clause-asked : goal.returns-in_default-clause-asked
returns-in_default-clause-asked g c =
    let oracle = g.D.SourceDatabase.oracle c.args.db.now in
    let s : State = state_of c.args.collector.now c.args.session.now in
    had_nothing oracle s (macro_directive_of c.args.directive)
    (derive_stays oracle s s (macro_directive_of c.args.directive) (written_derive_of c.args.written) c.requires.kind
    (world_lent g.D.SourceDatabase.oracle bound_by c.world-world.result) c.derive_macro.result c.world-world.ensures c.derive_macro.ensures c.in_default.is)

pub returns-clause-asked : goal.returns-clause-asked
returns-clause-asked g c =
    let oracle = g.D.SourceDatabase.oracle c.args.db.now in
    let s : State = state_of c.args.collector.now c.args.session.now in
    let d = macro_directive_of c.args.directive in
    let written = written_derive_of c.args.written in
    let turned = c.in_ok-call_waiting.ensures s in
    turn_derived oracle s (state_of (record c.args.collector.now { def_map = c.call_waiting.new.def_map; unresolved_macros = c.call_waiting.new.directives; expansions = c.call_waiting.new.expansions }) c.args.session.now) d written c.requires.kind
    (world_lent g.D.SourceDatabase.oracle bound_by c.world-world.result) c.derive_macro.result c.in-Some.macro_def c.world-world.ensures c.derive_macro.ensures c.in-Some.is turned.others turned.stands turned.is
