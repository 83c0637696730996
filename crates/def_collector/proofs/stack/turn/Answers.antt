use Rattle.std.proofs.Common.{ap, refl, subst, sym}
use Rattle.def_laws.proofs.RecordLaws.{on_ok}
use Rattle.def_rules.specs.State.{State, with_map}
use Rattle.def_collector.specs.Walk.{IsTurn, with_lists}
use Rattle.def_collector.proofs.VisitLemmas.{on_both}
use Rattle.def_collector.proofs.stack.turn.Goals as goal

pub returns-in-Some : goal.returns-in-Some
returns-in-Some c =
    on_both c.push_opened.result c.push_opened.ensures.begun c.push_opened.ensures.entered (λ begun entered s.
    let before : State = with_lists s c.args.mod_dirs.now c.args.def_map.now in
    subst (λ o. IsTurn c.args.frames.now.items c.args.frame o before c.push_opened.new.frames.items (with_lists s c.push_opened.new.mod_dirs c.args.def_map.now)) (sym c.in-Some.is)
    (begun, ap (λ d. record before { directories = d }) entered))

pub returns-in-None : goal.returns-in-None
returns-in-None c =
    on_ok c.bring_macros.result c.bring_macros.ensures (λ brought s.
    let before : State = with_lists s c.args.mod_dirs.now c.args.def_map.now in
    subst (λ o. IsTurn c.args.frames.now.items c.args.frame o before c.args.frames.now.items (with_lists s c.args.mod_dirs.now c.bring_macros.new.def_map)) (sym c.in-None.is)
    (refl, ap (with_map before) brought))
