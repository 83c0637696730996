use Rattle.std.proofs.Common.{ap, map, subst, sym, ◌∙◌}
use Rattle.std.specs.HashMap.{IsUnique}
use Rattle.def_calls.specs.Shown.{macros_in}
use Rattle.def_ids.specs.Equality.{glob_eq}
use Rattle.def_modules.specs.Maps.{map_state}
use Rattle.def_sources.specs.Tables.{bound_by}
use Rattle.def_collector.specs.Answer.{shown}
use Rattle.def_collector.specs.Collector.{state_of}
use Rattle.def_rules.specs.Report.{Answer, AreEdges, AreTargets, left_macro, shown_targets}
use Rattle.def_collector.specs.declared.answer.Collected.{Collected}
use Rattle.def_rules.specs.State.{State}
use Rattle.def_collector.specs.declared.collector.DefCollector.{DefCollector}
use Rattle.def_collector.proofs.FinishLemmas.{edges_listed, finished, targets_listed}
use Rattle.def_collector.proofs.collector.DefCollector.finish.Goals as goal

pub returns : goal.returns
returns c = λ session.
    let end : State = state_of c.args.self session in
    let left : DefCollector = c.report_left.new.self in
    let frame = c.report_left.ensures.frame in
    let told = c.in_ok-imports.ensures in
    let answer : Answer = shown c.into_collected.result in
    let became = c.into_collected.ensures in
    let edges : AreEdges end.content c.in_ok-edges.edges.items =
    edges_listed c.table.result.now c.args.self.table c.in_ok-edges.edges.items (c.table.ensures ∙ ap (λ (x : DefCollector). x.table) frame) c.in_ok-edges.ensures in
    let targets : AreTargets end.targets (map shown_targets c.in_ok-targets.targets.items) =
    targets_listed c.args.self.targets (map shown_targets c.in_ok-targets.targets.items) (c.in_ok-targets.ensures.listed ∙ ap (λ (x : DefCollector). x.targets.entries) frame) (subst (λ (x : DefCollector). IsUnique glob_eq x.targets) frame c.targets_of.ensures.once) in
    finished end c.args.limit_met answer (map_state left.def_map) c.in_ok-imports.imports.items left.diagnostics.items
    told.map told.imports told.diagnostics
    became.map (became.content ∙ ap (λ (x : DefCollector). bound_by x.table) frame) (ap (λ (x : Collected). (shown x).local) became.rest ∙ ap (λ (x : DefCollector). (state_of x session).local) frame)
    (ap (λ (x : Collected). x.diagnostics) became.rest)
    (ap (λ (x : Collected). x.outcome.imports.items) became.rest) (ap (λ (x : Collected). x.outcome.macros.items) became.rest ∙ c.in_ok-macros.ensures ∙ ap (map left_macro) (ap (λ (x : DefCollector). macros_in x.unresolved_macros.items) frame))
    (subst (λ (x : Collected). AreEdges end.content x.outcome.edges.items) (sym became.rest) edges)
    (subst (λ (x : Collected). AreTargets end.targets (map shown_targets x.outcome.targets.items)) (sym became.rest) targets)
    (ap (λ (x : Collected). x.outcome.limit_met) became.rest)
