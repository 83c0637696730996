use Rattle.std.proofs.Common.{None, arith, refl, sym, ◌∙◌}
use Rattle.std.proofs.option.Match.{None-if_not_some}
use Rattle.def_interner.specs.Session.{session_of}
use Rattle.def_interner.specs.SessionLaws.{adds_refl, adds_trans}
use Rattle.def_laws.proofs.StepsLaws.{leads_refl, leads_trans}
use Rattle.def_collector.specs.Collector.{state_of}
use Rattle.def_collector.proofs.VisitLemmas.{none_left, shorter, visited, visited_fewer, visited_within}
use Rattle.def_collector.proofs.stack.walk_list.Goals as goal

pub items-init : goal.items-init
items-init g c = record {
  run = λ rest. leads_refl _ _;
  fewer = omega arith;
  known = c.requires;
  adds = adds_refl (session_of c.args.session.now);
  empty = refl;
}

pub visit-requires : goal.visit-requires
visit-requires g c = record { list = c.items.invariant.known; empty = c.items.invariant.empty }

pub returns-in_err-visit-clause-session : goal.returns-in_err-visit-clause-session
returns-in_err-visit-clause-session g c = adds_trans (session_of c.args.session.now) (session_of c.items.session) (session_of c.visit.new.session) c.items.invariant.adds c.visit.ensures.session

pub returns-then-is_some-clause-run : goal.returns-then-is_some-clause-run
returns-then-is_some-clause-run g c rest =
    leads_trans (c.items.invariant.run rest)
    (visited (g.D.SourceDatabase.oracle c.args.db.now) c.items.frame c.in-Some.id c.in-Some.ensures.item (state_of c.items.collector c.items.session) (state_of c.visit.new.collector c.visit.new.session)
    c.visit.new.opened c.visit.new.opened refl c.in_ok-visit.ensures.run rest)

pub returns-then-is_some-clause-fewer : goal.returns-then-is_some-clause-fewer
returns-then-is_some-clause-fewer g c some =
    visited_fewer (g.D.SourceDatabase.oracle c.args.db.now) c.items.frame c.in-Some.id c.in-Some.ensures.item
    c.visit.new.opened c.visit.new.opened _ refl c.items.invariant.fewer c.in_ok-visit.ensures.fewer

pub returns-then-is_some-clause-known : goal.returns-then-is_some-clause-known
returns-then-is_some-clause-known g c =
    (c.in_ok-visit.ensures.known, c.items.invariant.known)

pub returns-then-is_some-clause-session : goal.returns-then-is_some-clause-session
returns-then-is_some-clause-session g c = adds_trans (session_of c.args.session.now) (session_of c.items.session) (session_of c.visit.new.session) c.items.invariant.adds c.visit.ensures.session

pub items-preserved : goal.items-preserved
items-preserved g c =
    let oracle = g.D.SourceDatabase.oracle c.args.db.now in
    let none = None-if_not_some c.visit.new.opened (sym c.is_some.ensures ∙ c.if-is_some.false) in
    record {
      run = λ rest. leads_trans (c.items.invariant.run rest)
          (visited oracle c.items.frame c.in-Some.id c.in-Some.ensures.item (state_of c.items.collector c.items.session) (state_of c.visit.new.collector c.visit.new.session)
          c.visit.new.opened None none c.in_ok-visit.ensures.run rest);
      fewer = visited_within oracle c.items.frame c.in-Some.id c.in-Some.ensures.item _ c.items.invariant.fewer;
      known = c.items.invariant.known;
      adds = adds_trans (session_of c.args.session.now) (session_of c.items.session) (session_of c.visit.new.session) c.items.invariant.adds c.visit.ensures.session;
      empty = none;
    }

pub items-smaller : goal.items-smaller
items-smaller g c = shorter (g.D.SourceDatabase.oracle c.args.db.now) c.items.frame c.in-Some.id c.in-Some.ensures.item

pub returns-clause-run : goal.returns-clause-run
returns-clause-run g c = c.items.invariant.run

pub returns-clause-ends : goal.returns-clause-ends
returns-clause-ends g c same = none_left c.items.frame c.in_default.ensures.item

pub returns-clause-known : goal.returns-clause-known
returns-clause-known g c = (tt, c.items.invariant.known)

pub returns-clause-session : goal.returns-clause-session
returns-clause-session g c = c.items.invariant.adds
