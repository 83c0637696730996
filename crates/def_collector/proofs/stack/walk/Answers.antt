use Rattle.std.proofs.Common.{[], ap, refl, subst, sym, ◌∙◌}
use Rattle.def_interner.specs.Session.{session_of}
use Rattle.def_interner.specs.SessionLaws.{adds_trans}
use Rattle.def_parts.specs.Sites.{directories_of}
use Rattle.def_collector.specs.Collector.{state_of}
use Rattle.def_collector.specs.Walk.{agenda_of, is_frame_known, list_tasks, with_lists}
use Rattle.def_rules.specs.State.{State}
use Rattle.def_laws.specs.Runs.{Leads}
use Rattle.def_collector.proofs.VisitLemmas.{all_last, empty_list, turned, turned_fewer, walk_begins}
use Rattle.def_collector.proofs.WalkLemmas.{agenda_of-none}
use Rattle.def_collector.proofs.stack.walk.Goals as goal

pub frames-init : goal.frames-init
frames-init g c =
    let before : State = state_of c.args.collector.now c.args.session.now in
    walk_begins (g.D.SourceDatabase.oracle c.args.db.now) c.args.first [] c.in_ok-frames.frames.items before (record before { directories = directories_of c.begin_walk.new.mod_dirs })
    c.requires refl c.in_ok-frames.ensures.begun (ap (λ d. record before { directories = d }) c.in_ok-frames.ensures.entered)

pub walk_list-requires : goal.walk_list-requires
walk_list-requires g c =
    all_last (is_frame_known (g.D.SourceDatabase.oracle c.args.db.now)) c.pop.new.self.items c.frames.frames.items c.in-Some.frame c.in-Some.ensures.items c.frames.invariant.known

pub frames-preserved : goal.frames-preserved
frames-preserved g c =
    let between : State = state_of c.walk_list.new.collector c.walk_list.new.session in
    turned c.frames.invariant c.pop.new.self.items c.in-Some.frame c.in-Some.ensures.items c.walk_list.new.frame c.in_ok-opened.opened c.in_ok-opened.ensures.run c.walk_list.ensures.session
    c.in_ok-opened.opened refl c.turn.new.frames.items (with_lists between c.turn.new.mod_dirs c.turn.new.def_map) (c.in_ok-turn.ensures between) c.in_ok-opened.ensures.ends c.in_ok-opened.ensures.known

pub frames-smaller : goal.frames-smaller
frames-smaller g c =
    let between : State = state_of c.walk_list.new.collector c.walk_list.new.session in
    turned_fewer c.frames.invariant c.pop.new.self.items c.in-Some.frame c.in-Some.ensures.items c.walk_list.new.frame c.in_ok-opened.opened c.in_ok-opened.ensures.run c.walk_list.ensures.session
    c.in_ok-opened.opened refl c.turn.new.frames.items (with_lists between c.turn.new.mod_dirs c.turn.new.def_map) (c.in_ok-turn.ensures between) c.in_ok-opened.ensures.known c.in_ok-opened.ensures.fewer

pub returns-clause-run : goal.returns-clause-run
returns-clause-run g c =
    let oracle = g.D.SourceDatabase.oracle c.args.db.now in
    subst (λ tasks. Leads oracle (list_tasks oracle c.args.first) (state_of c.args.collector.now c.args.session.now) tasks (state_of c.frames.collector c.frames.session))
    (ap (λ fs. agenda_of fs) (empty_list c.frames.frames.items (sym c.frames.frames.ok.0 ∙ c.in_default.ensures.cases.0)) ∙ agenda_of-none) c.frames.invariant.run

pub returns-in_err-opened-clause-session : goal.returns-in_err-opened-clause-session
returns-in_err-opened-clause-session g c =
    adds_trans (session_of c.args.session.now) (session_of c.frames.session) (session_of c.walk_list.new.session) c.frames.invariant.adds c.walk_list.ensures.session

pub returns-in_err-turn-clause-session : goal.returns-in_err-turn-clause-session
returns-in_err-turn-clause-session g c =
    adds_trans (session_of c.args.session.now) (session_of c.frames.session) (session_of c.walk_list.new.session) c.frames.invariant.adds c.walk_list.ensures.session
