use Rattle.std.proofs.Common.{arith, List, ◌∷◌, ◌++◌, ◌∙◌, subst, sym}
use Rattle.def_interner.specs.Session.{session_of}
use Rattle.def_interner.specs.SessionLaws.{adds_trans}
use Rattle.def_items.specs.Parts.{list_site}
use Rattle.def_collector.specs.declared.collector.DefCollector.{DefCollector}
use Rattle.def_collector.specs.Collector.{state_of}
use Rattle.def_collector.specs.Walk.{inner_of}
use Rattle.def_rules.specs.State.{State, Task, Visit}
use Rattle.def_laws.specs.Performs.{IsHandled}
use Rattle.def_laws.specs.Runs.{Leads}
use Rattle.def_laws.proofs.RecordLaws.{on_ok}
use Rattle.def_laws.proofs.StepsLaws.{leads_handled, leads_nothing, leads_waits}
use Rattle.def_collector.proofs.VisitLemmas.{inner_few, node_of, none_fewer, none_known, none_runs, not_disabled, on_both, visited_disabled}
use Rattle.def_laws.proofs.WorkLaws.{handled_less}
use Rattle.def_collector.proofs.stack.visit.Goals as goal

pub returns-in_default-clause-run : goal.returns-in_default-clause-run
returns-in_default-clause-run g c =
    none_runs (g.D.SourceDatabase.oracle c.args.db.now) c.args.opened.now c.requires.empty (list_site c.args.list.now) c.args.id _ _
    (leads_nothing (state_of c.args.collector.now c.args.session.now) (list_site c.args.list.now) c.args.id (node_of (g.D.SourceDatabase.oracle c.args.db.now) c.args.list.now c.args.id _ c.requires.list c.in_default.ensures))

pub returns-in_default-clause-fewer : goal.returns-in_default-clause-fewer
returns-in_default-clause-fewer g c = none_fewer (g.D.SourceDatabase.oracle c.args.db.now) c.args.opened.now c.requires.empty (list_site c.args.list.now) c.args.id

pub returns-in_default-clause-known : goal.returns-in_default-clause-known
returns-in_default-clause-known g c = none_known (g.D.SourceDatabase.oracle c.args.db.now) c.args.opened.now c.requires.empty

pub returns-in-Some-disabled-clause-run : goal.returns-in-Some-disabled-clause-run
returns-in-Some-disabled-clause-run g c =
    none_runs (g.D.SourceDatabase.oracle c.args.db.now) c.args.opened.now c.requires.empty (list_site c.args.list.now) c.args.id _ _
    (visited_disabled (g.D.SourceDatabase.oracle c.args.db.now) (state_of c.args.collector.now c.args.session.now) c.report_disabled_item.new.diagnostics.items (list_site c.args.list.now) c.args.id c.in-Some.node.now _ _
    (node_of (g.D.SourceDatabase.oracle c.args.db.now) c.args.list.now c.args.id _ c.requires.list c.in-Some.ensures) c.in_ok-disabled.ensures.cfg c.in-Some-disabled.is c.in_ok-disabled.ensures.reported)

pub returns-in-Some-disabled-clause-fewer : goal.returns-in-Some-disabled-clause-fewer
returns-in-Some-disabled-clause-fewer g c = none_fewer (g.D.SourceDatabase.oracle c.args.db.now) c.args.opened.now c.requires.empty (list_site c.args.list.now) c.args.id

pub returns-in-Some-disabled-clause-known : goal.returns-in-Some-disabled-clause-known
returns-in-Some-disabled-clause-known g c = none_known (g.D.SourceDatabase.oracle c.args.db.now) c.args.opened.now c.requires.empty

pub returns-then-branch-clause-run : goal.returns-then-branch-clause-run
returns-then-branch-clause-run g c =
    let oracle = g.D.SourceDatabase.oracle c.args.db.now in
    let session = c.args.session.now in
    let before : DefCollector = record c.args.collector.now { diagnostics = c.report_disabled_item.new.diagnostics } in
    let after : State = state_of c.queue_awaited.new.collector session in
    let waits = c.in_ok-queue_awaited.ensures.waits c.if-branch.true session in
    none_runs oracle c.args.opened.now c.requires.empty (list_site c.args.list.now) c.args.id _ _
    (subst (λ x. (rest : List Task) → Leads oracle (Visit (list_site c.args.list.now) c.args.id ∷ rest) (state_of x session) rest after)
    (not_disabled c.args.collector.now c.report_disabled_item.new.diagnostics c.in_ok-disabled.disabled c.in_default-disabled.is c.in_ok-disabled.ensures.same)
    (leads_waits (state_of before session) after (list_site c.args.list.now) c.args.id c.in-Some.node.now waits.attr
    (node_of oracle c.args.list.now c.args.id _ c.requires.list c.in-Some.ensures) (sym c.in_ok-disabled.ensures.cfg ∙ c.in_default-disabled.is) waits.awaited waits.waits))

pub returns-then-branch-clause-fewer : goal.returns-then-branch-clause-fewer
returns-then-branch-clause-fewer g c = none_fewer (g.D.SourceDatabase.oracle c.args.db.now) c.args.opened.now c.requires.empty (list_site c.args.list.now) c.args.id

pub returns-then-branch-clause-known : goal.returns-then-branch-clause-known
returns-then-branch-clause-known g c = none_known (g.D.SourceDatabase.oracle c.args.db.now) c.args.opened.now c.requires.empty

pub returns-clause-run : goal.returns-clause-run
returns-clause-run g c =
    let oracle = g.D.SourceDatabase.oracle c.args.db.now in
    let session = c.args.session.now in
    let before : DefCollector = record c.args.collector.now { diagnostics = c.report_disabled_item.new.diagnostics } in
    let after : State = state_of c.collect_item.new.collector c.collect_item.new.session in
    let quiet = c.in_ok-queue_awaited.ensures.same c.if-branch.false in
    let inner = inner_of oracle c.collect_item.new.opened in
    on_ok c.collect_item.result c.collect_item.ensures.handled (λ handled.
    subst (λ x. (rest : List Task) → Leads oracle (Visit (list_site c.args.list.now) c.args.id ∷ rest) (state_of x session) (inner ++ rest) after)
    (not_disabled c.args.collector.now c.report_disabled_item.new.diagnostics c.in_ok-disabled.disabled c.in_default-disabled.is c.in_ok-disabled.ensures.same)
    (leads_handled (state_of before session) after (list_site c.args.list.now) c.args.id c.in-Some.node.now inner
    (node_of oracle c.args.list.now c.args.id _ c.requires.list c.in-Some.ensures) (sym c.in_ok-disabled.ensures.cfg ∙ c.in_default-disabled.is) (quiet.1 session)
    (subst (λ x. IsHandled oracle (state_of x session) after (list_site c.args.list.now) c.in-Some.node.now inner) quiet.0
    (record { given = state_of c.give_deferred.new.collector c.give_deferred.new.session; gave = c.in_ok-give_deferred.ensures.gave; handled = handled }))))

pub returns-clause-fewer : goal.returns-clause-fewer
returns-clause-fewer g c =
    let oracle = g.D.SourceDatabase.oracle c.args.db.now in
    let before : State = state_of c.queue_awaited.new.collector c.args.session.now in
    let opened = c.collect_item.new.opened in
    on_both c.collect_item.result c.collect_item.ensures.handled c.collect_item.ensures.known (λ handled known.
    handled_less oracle before (state_of c.collect_item.new.collector c.collect_item.new.session) (list_site c.args.list.now) c.args.id c.in-Some.node.now (inner_of oracle opened)
    (node_of oracle c.args.list.now c.args.id _ c.requires.list c.in-Some.ensures) (omega (arith, c.well_formed)) (inner_few oracle opened known)
    (record { given = state_of c.give_deferred.new.collector c.give_deferred.new.session; gave = c.in_ok-give_deferred.ensures.gave; handled = handled }))

pub returns-clause-session : goal.returns-clause-session
returns-clause-session g c =
    adds_trans (session_of c.args.session.now) (session_of c.give_deferred.new.session) (session_of c.collect_item.new.session) c.give_deferred.ensures.session c.collect_item.ensures.session
