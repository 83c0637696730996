use Rattle.std.proofs.Common.{◌≡◌, []}
use Rattle.def_laws.specs.Runs.{Leads}
use Rattle.def_laws.specs.Turns.{turns_left}
use Rattle.def_rounds.proofs.rounds.import_passes.Given as goal

abbrev pub invariant-passes : goal.invariant-passes
invariant-passes g l = record {
  asks : g.P.Passes.oracle l.passes ≡ g.P.Passes.oracle l.initial.passes;
  run : Leads (g.P.Passes.oracle l.initial.passes) [] (g.P.Passes.state l.initial.passes l.session) [] (g.P.Passes.state l.passes l.session);
}

abbrev pub decreases-passes : goal.decreases-passes
decreases-passes g l = turns_left (g.P.Passes.state l.passes l.session)
