use Rattle.std.proofs.Common.{◌≡◌, ◌∷◌, [], ap, map, arith}
use Rattle.def_calls.specs.Shown.{expansion_shown}
use Rattle.def_collector.specs.Collector.{state_of}
use Rattle.def_interner.specs.Session.{session_of}
use Rattle.def_interner.specs.SessionLaws.{adds_refl, adds_trans}
use Rattle.def_laws.proofs.StepsLaws.{calmly_refl, calmly_trans}
use Rattle.def_rules.specs.State.{State}
use Rattle.def_collector.proofs.MacroPassLemmas.{few_macros, walked_fewer, walked_recorded, walked_run}
use Rattle.def_collector.proofs.macro_pass.walk_expansions.Goals as goal

pub expansions-init : goal.expansions-init
expansions-init g c = record { run = calmly_refl [] (state_of c.args.collector.now c.args.session.now); fewer = omega arith; recorded = c.requires; adds = adds_refl (session_of c.args.session.now) }

pub expansions-preserved : goal.expansions-preserved
expansions-preserved g c =
    let oracle = g.D.SourceDatabase.oracle c.args.db.now in
    let s : State = state_of c.expansions.collector c.expansions.session in
    let t : State = state_of c.walk_expansion.new.collector c.walk_expansion.new.session in
    let e = c.in-Some.expansion in
    let rest = c.pop_front.new.self.items in
    let first : s.expansions ≡ expansion_shown e ∷ map expansion_shown rest = ap (map expansion_shown) c.in-Some.ensures.items in
    let walked = c.in_ok-walk_expansion.ensures.walked in
    let less = walked_fewer oracle s t e rest c.expansions.invariant.recorded first walked c.walk_expansion.ensures.depth (few_macros c.walk_expansion.new.collector.unresolved_macros) in
    let before = c.expansions.invariant.fewer in
    record {
      run = calmly_trans c.expansions.invariant.run (walked_run oracle s t e rest c.expansions.invariant.recorded first walked);
      fewer = omega (arith, less, before);
      recorded = walked_recorded oracle s t e rest c.expansions.invariant.recorded first walked;
      adds = adds_trans (session_of c.args.session.now) (session_of c.expansions.session) (session_of c.walk_expansion.new.session) c.expansions.invariant.adds c.walk_expansion.ensures.session;
    }

pub expansions-smaller : goal.expansions-smaller
expansions-smaller g c =
    let oracle = g.D.SourceDatabase.oracle c.args.db.now in
    let s : State = state_of c.expansions.collector c.expansions.session in
    let t : State = state_of c.walk_expansion.new.collector c.walk_expansion.new.session in
    let e = c.in-Some.expansion in
    let rest = c.pop_front.new.self.items in
    let first : s.expansions ≡ expansion_shown e ∷ map expansion_shown rest = ap (map expansion_shown) c.in-Some.ensures.items in
    walked_fewer oracle s t e rest c.expansions.invariant.recorded first c.in_ok-walk_expansion.ensures.walked c.walk_expansion.ensures.depth (few_macros c.walk_expansion.new.collector.unresolved_macros)

pub returns-in_err-walk_expansion-clause-session : goal.returns-in_err-walk_expansion-clause-session
returns-in_err-walk_expansion-clause-session g c =
    adds_trans (session_of c.args.session.now) (session_of c.expansions.session) (session_of c.walk_expansion.new.session) c.expansions.invariant.adds c.walk_expansion.ensures.session
