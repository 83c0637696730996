use Rattle.std.proofs.Common.{[], ◌∷◌, ◌++◌, append-nil, refl, subst}
use Rattle.def_collector.specs.Collector.{state_of}
use Rattle.def_collector.specs.Walk.{inner_of, list_tasks}
use Rattle.def_interner.specs.Session.{session_of}
use Rattle.def_interner.specs.SessionLaws.{adds_trans}
use Rattle.def_items.specs.Parts.{list_site}
use Rattle.def_laws.proofs.RecordLaws.{on_ok}
use Rattle.def_laws.proofs.StepsLaws.{leads_trans}
use Rattle.def_laws.specs.Runs.{Leads}
use Rattle.def_rules.specs.State.{State, Visit}
use Rattle.def_collector.proofs.stack.walk_item.Goals as goal

pub visit-requires : goal.visit-requires
visit-requires g c = record { list = c.requires; empty = refl }

pub returns-in-Some-clause-run : goal.returns-in-Some-clause-run
returns-in-Some-clause-run g c = on_ok c.walk.result c.walk.ensures.run (λ walked.
    let oracle = g.D.SourceDatabase.oracle c.args.db.now in
    let s : State = state_of c.args.collector.now c.args.session.now in
    let visited : State = state_of c.visit.new.collector c.visit.new.session in
    let tasks = list_tasks oracle c.in-Some.opened in
    let first : Leads oracle (Visit (list_site c.args.list.now) c.args.id ∷ []) s tasks visited =
    subst (λ ts. Leads oracle (Visit (list_site c.args.list.now) c.args.id ∷ []) s ts visited) (append-nil tasks)
    (subst (λ o. Leads oracle (Visit (list_site c.args.list.now) c.args.id ∷ []) s (inner_of oracle o ++ []) visited) c.in-Some.is (c.in_ok-visit.ensures.run [])) in
    leads_trans first walked)

pub returns-in-Some-clause-session : goal.returns-in-Some-clause-session
returns-in-Some-clause-session g c =
    adds_trans (session_of c.args.session.now) (session_of c.visit.new.session) (session_of c.walk.new.session) c.visit.ensures.session c.walk.ensures.session

pub returns-in-None-clause-run : goal.returns-in-None-clause-run
returns-in-None-clause-run g c =
    let oracle = g.D.SourceDatabase.oracle c.args.db.now in
    let s : State = state_of c.args.collector.now c.args.session.now in
    subst (λ o. Leads oracle (Visit (list_site c.args.list.now) c.args.id ∷ []) s (inner_of oracle o ++ []) (state_of c.visit.new.collector c.visit.new.session)) c.in-None.is (c.in_ok-visit.ensures.run [])
