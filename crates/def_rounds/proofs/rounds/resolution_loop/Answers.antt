use Rattle.std.proofs.Common.{[], Contains, arith, false, refl, subst, sym, ◌∙◌}
use Rattle.def_interner.specs.Session.{session_of}
use Rattle.def_interner.specs.SessionLaws.{adds_refl, adds_trans}
use Rattle.def_laws.specs.Sound.{IsSoundWith}
use Rattle.def_laws.proofs.PassLaws.{leads_lighter}
use Rattle.def_laws.proofs.StepsLaws.{collects_sound}
use Rattle.def_rules.specs.Fallback.{IsStuck}
use Rattle.def_rules.specs.Recording.{NoneReady}
use Rattle.def_rules.specs.Settled.{IsNoAttribute}
use Rattle.def_rules.specs.State.{State}
use Rattle.def_rules.specs.Waiting.{MacroDirective}
use Rattle.def_rounds.specs.Rounds.{Ends}
use Rattle.def_rounds.proofs.LoopLemmas.{adds_twice, ends_over, ends_stuck, made_given, made_none, made_round}
use Rattle.def_rounds.proofs.rounds.resolution_loop.Goals as goal

pub rounds-init : goal.rounds-init
rounds-init g c =
    record { asks = refl; made = made_none _ _; few = omega arith; sound = c.requires.sound; bare = c.requires.bare; adds = adds_refl (session_of c.args.session.now) }

pub resolve_macros-requires-clause-sound : goal.resolve_macros-requires-clause-sound
resolve_macros-requires-clause-sound g c = collects_sound c.in_ok-import_passes.ensures.run.collects c.rounds.invariant.sound

pub resolve_macros-requires-clause-ready : goal.resolve_macros-requires-clause-ready
resolve_macros-requires-clause-ready g c =
    subst (λ o. NoneReady o (g.P.Passes.state c.import_passes.new.passes c.rounds.session)) (sym c.in_ok-import_passes.ensures.asks) c.in_ok-import_passes.ensures.settled

pub returns-in_err-resolve_macros-clause-session : goal.returns-in_err-resolve_macros-clause-session
returns-in_err-resolve_macros-clause-session g c = adds_trans _ _ _ c.rounds.invariant.adds c.resolve_macros.ensures.session

pub returns-then-rounds-gt-FIXED_POINT_LIMIT-clause-ends : goal.returns-then-rounds-gt-FIXED_POINT_LIMIT-clause-ends
returns-then-rounds-gt-FIXED_POINT_LIMIT-clause-ends g c =
    let round = c.in_ok-resolve_macros.ensures.round c.if-branch.true in
    ends_over (made_round c.rounds.invariant.made c.rounds.invariant.asks c.in_ok-import_passes.ensures.run c.in_ok-import_passes.ensures.asks round) (omega (arith, c.if-rounds-gt-FIXED_POINT_LIMIT.true))

pub returns-then-rounds-gt-FIXED_POINT_LIMIT-clause-sound : goal.returns-then-rounds-gt-FIXED_POINT_LIMIT-clause-sound
returns-then-rounds-gt-FIXED_POINT_LIMIT-clause-sound g c =
    collects_sound (c.in_ok-resolve_macros.ensures.round c.if-branch.true).run (collects_sound c.in_ok-import_passes.ensures.run.collects c.rounds.invariant.sound)

pub returns-then-rounds-gt-FIXED_POINT_LIMIT-clause-session : goal.returns-then-rounds-gt-FIXED_POINT_LIMIT-clause-session
returns-then-rounds-gt-FIXED_POINT_LIMIT-clause-session g c = adds_trans _ _ _ c.rounds.invariant.adds c.resolve_macros.ensures.session

pub rounds-smaller-else-rounds-gt-FIXED_POINT_LIMIT : goal.rounds-smaller-else-rounds-gt-FIXED_POINT_LIMIT
rounds-smaller-else-rounds-gt-FIXED_POINT_LIMIT g c =
    let less = (c.in_ok-resolve_macros.ensures.round c.if-branch.true).fewer in
    omega (arith, less, leads_lighter _ _ c.in_ok-import_passes.ensures.run)

pub rounds-preserved-else-rounds-gt-FIXED_POINT_LIMIT : goal.rounds-preserved-else-rounds-gt-FIXED_POINT_LIMIT
rounds-preserved-else-rounds-gt-FIXED_POINT_LIMIT g c =
    let round = c.in_ok-resolve_macros.ensures.round c.if-branch.true in
    let few = c.if-rounds-gt-FIXED_POINT_LIMIT.false in
    record {
      asks = c.in_ok-resolve_macros.ensures.asks ∙ c.in_ok-import_passes.ensures.asks ∙ c.rounds.invariant.asks;
      made = made_round c.rounds.invariant.made c.rounds.invariant.asks c.in_ok-import_passes.ensures.run c.in_ok-import_passes.ensures.asks round;
      few = omega (arith, few);
      sound = collects_sound round.run (collects_sound c.in_ok-import_passes.ensures.run.collects c.rounds.invariant.sound);
      bare = c.in_ok-resolve_macros.ensures.bare;
      adds = adds_trans _ _ _ c.rounds.invariant.adds c.resolve_macros.ensures.session;
    }

pub fall_back-requires-clause-stuck : goal.fall_back-requires-clause-stuck
fall_back-requires-clause-stuck g c =
    let u = g.P.Passes.state c.resolve_macros.new.self c.resolve_macros.new.session in
    subst (λ o. IsStuck o u) (sym c.in_ok-resolve_macros.ensures.asks) (c.in_ok-resolve_macros.ensures.stuck c.if-branch.false).stuck

pub returns-in_err-fall_back-clause-session : goal.returns-in_err-fall_back-clause-session
returns-in_err-fall_back-clause-session g c = adds_twice _ _ _ _ c.rounds.invariant.adds c.resolve_macros.ensures.session c.fall_back.ensures.session

pub returns-then-not-branch-clause-ends : goal.returns-then-not-branch-clause-ends
returns-then-not-branch-clause-ends g c =
    let same = c.in_ok-fall_back.ensures.same c.if-not-branch.true in
    let none = subst (λ (x : State). (d : MacroDirective) → Contains x.macros d → IsNoAttribute d.kind) same (c.in_ok-fall_back.ensures.none c.if-not-branch.true) in
    subst (λ x. Ends (g.P.Passes.oracle c.args.passes.now) [] (g.P.Passes.state c.args.passes.now c.args.session.now) false x) (sym same)
    (ends_stuck c.rounds.invariant.made c.rounds.invariant.asks c.in_ok-import_passes.ensures.run c.in_ok-import_passes.ensures.asks (c.in_ok-resolve_macros.ensures.stuck c.if-branch.false) none)

pub returns-then-not-branch-clause-sound : goal.returns-then-not-branch-clause-sound
returns-then-not-branch-clause-sound g c =
    subst (IsSoundWith []) (sym (c.in_ok-fall_back.ensures.same c.if-not-branch.true))
    (collects_sound (c.in_ok-resolve_macros.ensures.stuck c.if-branch.false).run (collects_sound c.in_ok-import_passes.ensures.run.collects c.rounds.invariant.sound))

pub returns-then-not-branch-clause-session : goal.returns-then-not-branch-clause-session
returns-then-not-branch-clause-session g c = adds_twice _ _ _ _ c.rounds.invariant.adds c.resolve_macros.ensures.session c.fall_back.ensures.session

pub rounds-smaller : goal.rounds-smaller
rounds-smaller g c =
    let less = (c.in_ok-fall_back.ensures.given_up c.if-not-branch.false).fewer in
    let as_much = (c.in_ok-resolve_macros.ensures.stuck c.if-branch.false).as_much in
    omega (arith, less, as_much, leads_lighter _ _ c.in_ok-import_passes.ensures.run)

pub rounds-preserved : goal.rounds-preserved
rounds-preserved g c =
    let stuck = c.in_ok-resolve_macros.ensures.stuck c.if-branch.false in
    let given = c.in_ok-fall_back.ensures.given_up c.if-not-branch.false in
    record {
      asks = c.in_ok-fall_back.ensures.asks ∙ c.in_ok-resolve_macros.ensures.asks ∙ c.in_ok-import_passes.ensures.asks ∙ c.rounds.invariant.asks;
      made = made_given c.rounds.invariant.made c.rounds.invariant.asks c.in_ok-import_passes.ensures.run c.in_ok-import_passes.ensures.asks c.in_ok-resolve_macros.ensures.asks stuck given;
      few = c.rounds.invariant.few;
      sound = collects_sound given.run (collects_sound stuck.run (collects_sound c.in_ok-import_passes.ensures.run.collects c.rounds.invariant.sound));
      bare = c.in_ok-fall_back.ensures.bare;
      adds = adds_twice _ _ _ _ c.rounds.invariant.adds c.resolve_macros.ensures.session c.fall_back.ensures.session;
    }
