use Rattle.std.proofs.Common.{None, Some, ap, sym, ◌∙◌}
use Rattle.def_calls.specs.Shown.{macro_directive_of, written_derive_of}
use Rattle.def_collector.specs.Collector.{state_of}
use Rattle.def_map.specs.Asking.{world_lent}
use Rattle.def_sources.specs.Tables.{bound_by}
use Rattle.def_laws.proofs.RecordLaws.{on_ok}
use Rattle.def_rules.specs.Directives.{tried_effect}
use Rattle.def_rules.specs.State.{State}
use Rattle.def_collector.proofs.TurnLemmas.{derive_found}
use Rattle.def_collector.proofs.macro_pass.try_derive.Goals as goal

pub returns-in_default-clause-tried : goal.returns-in_default-clause-tried
returns-in_default-clause-tried g c =
    let oracle = g.D.SourceDatabase.oracle c.args.db.now in
    let s : State = state_of c.args.collector.now c.args.session.now in
    let d = macro_directive_of c.args.directive in
    let written = written_derive_of c.args.written in
    let found = derive_found oracle s d.scope written (world_lent g.D.SourceDatabase.oracle bound_by c.world-world.result) c.derive_macro.result None c.world-world.ensures c.derive_macro.ensures c.in_default.is in
    on_ok c.queue_derive.result c.queue_derive.ensures (λ more.
    (λ i. record s { macros = more i }) ∙ ap (λ f. (tried_effect oracle s d written f).state) (sym found))

pub returns-clause-tried : goal.returns-clause-tried
returns-clause-tried g c =
    let oracle = g.D.SourceDatabase.oracle c.args.db.now in
    let s : State = state_of c.args.collector.now c.args.session.now in
    let d = macro_directive_of c.args.directive in
    let written = written_derive_of c.args.written in
    let found = derive_found oracle s d.scope written (world_lent g.D.SourceDatabase.oracle bound_by c.world-world.result) c.derive_macro.result (Some c.in-Some.macro_def) c.world-world.ensures c.derive_macro.ensures c.in-Some.is in
    on_ok c.call_tried.result c.call_tried.ensures (λ called.
    called s ∙ ap (λ f. (tried_effect oracle s d written f).state) (sym found))
