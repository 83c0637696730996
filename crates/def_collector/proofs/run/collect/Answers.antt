use Rattle.std.proofs.Common.{◌≡◌, ◌+◌, arith, subst}
use Rattle.def_interner.specs.Session.{session_of}
use Rattle.def_interner.specs.SessionLaws.{adds_trans}
use Rattle.def_laws.proofs.ResultLaws.{if_ok}
use Rattle.def_laws.specs.Runs.{HoldRounds}
use Rattle.def_laws.proofs.RoundsLaws.{holds_both, holds_none}
use Rattle.def_laws.proofs.InTurnLaws.{turn_both, turn_empty}
use Rattle.def_laws.proofs.StepsLaws.{calmly_led, collects_sound, collects_trans, leads_bare}
use Rattle.def_collector.proofs.run.collect.Goals as goal

pub resolution_loop-requires-clause-sound : goal.resolution_loop-requires-clause-sound
resolution_loop-requires-clause-sound g c = collects_sound c.in_ok-seed_with_top_level.ensures.run.collects c.requires.start

pub resolution_loop-requires-clause-bare : goal.resolution_loop-requires-clause-bare
resolution_loop-requires-clause-bare g c = leads_bare c.in_ok-seed_with_top_level.ensures.run (record { inner_calls = c.requires.bare.inner_calls; expansions = c.requires.bare.expansions })

pub returns-clause-ends : goal.returns-clause-ends
returns-clause-ends g c = if_ok c.resolution_loop.result c.resolution_loop.ensures.ends (λ limit_met later.
    let seeded = c.in_ok-seed_with_top_level.ensures.run in
    let first = seeded.collects in
    let run = collects_trans first later.run in
    let same : 0 + later.rounds ≡ later.rounds = omega arith in
    record { run = run; in_turn = turn_both first later.run (turn_empty (calmly_led seeded)) later.in_turn; rounds = later.rounds; holds = subst (λ n. HoldRounds run.runs n) same (holds_both first later.run (holds_none first) later.holds); limit = later.limit; rest = later.rest })

pub returns-clause-session : goal.returns-clause-session
returns-clause-session g c =
    adds_trans (session_of c.args.session.now) (session_of c.seed_with_top_level.new.session) (session_of c.resolution_loop.new.session) c.seed_with_top_level.ensures.session c.resolution_loop.ensures.session
