use Rattle.std.proofs.Common.{◌≡◌, ◌≤◌, []}
use Rattle.def_interner.specs.Session.{AddsLocations, session_of}
use Rattle.def_laws.specs.Depths.{waiting_work}
use Rattle.def_laws.specs.Sound.{IsSoundWith}
use Rattle.def_rules.specs.Rounds.{round_limit}
use Rattle.def_rules.specs.State.{IsBare}
use Rattle.def_rounds.specs.Rounds.{HasMade}
use Rattle.def_rounds.proofs.rounds.resolution_loop.Given as goal

abbrev pub invariant-rounds : goal.invariant-rounds
invariant-rounds g l =
    let state = g.P.Passes.state in
    record {
      asks : g.P.Passes.oracle l.passes ≡ g.P.Passes.oracle l.fn.passes;
      made : HasMade (g.P.Passes.oracle l.fn.passes) (state l.fn.passes l.fn.session) l.rounds (state l.passes l.session);
      few : l.rounds ≤ round_limit;
      sound : IsSoundWith [] (state l.passes l.session);
      bare : IsBare (state l.passes l.session);
      adds : AddsLocations (session_of l.fn.session) (session_of l.session);
    }

abbrev pub decreases-rounds : goal.decreases-rounds
decreases-rounds g l = waiting_work (g.P.Passes.state l.passes l.session)
