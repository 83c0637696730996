use Rattle.std.proofs.Common.{[], refl, sym, ap, subst, ◌∙◌}
use Rattle.std.specs.Prelude.{IfSome, unwrap_or}
use Rattle.def_interner.specs.Session.{session_of}
use Rattle.def_parts.specs.Sites.{site_of}
use Rattle.def_modules.specs.Maps.{map_state}
use Rattle.def_attrs.specs.Shown.{deferrals_of}
use Rattle.def_collector.specs.Collector.{with_deferred}
use Rattle.def_rules.specs.Deferred.{AreGiven, IsAdt, deferred_in, without_deferred}
use Rattle.def_laws.proofs.LocationsLaws.{only_refl}
use Rattle.def_rules.specs.State.{State}
use Rattle.def_collector.proofs.GivenLemmas.{gave_impls}
use Rattle.def_collector.proofs.VisitLemmas.{on_both}
use Rattle.def_collector.proofs.items.give_those_of.Goals as goal

pub returns-in_default-take-clause-gave : goal.returns-in_default-take-clause-gave
returns-in_default-take-clause-gave g c = λ t.
    let s : State = with_deferred t c.args.session.now c.args.def_map.now c.args.deferred.now in
    let numbered = session_of c.number_adt.new.session in
    let of_item = subst (λ o. IfSome o (λ adt. (u : State) → IsAdt (record u { session = numbered }) (site_of c.args.site.now) c.args.node.now c.args.node.now.kind adt)) c.in-Some.is c.in_ok-adt.ensures.numbered in
    gave_impls (g.D.SourceDatabase.oracle c.args.db.now) s (site_of c.args.site.now) c.args.node.now numbered numbered c.in_ok-adt.ensures.own c.in-Some.adt (only_refl numbered) (of_item s)
    s.map (deferrals_of c.take.new.self) (c.take.ensures.left ∙ ap (without_deferred s.deferred) c.position-position.ensures)
    [] (sym (ap (λ o. unwrap_or o []) c.in_default-take.is) ∙ c.take.ensures.taken ∙ ap (deferred_in s.deferred) c.position-position.ensures) refl

pub returns-clause-gave : goal.returns-clause-gave
returns-clause-gave g c =
    let oracle = g.D.SourceDatabase.oracle c.args.db.now in
    let site = site_of c.args.site.now in
    let numbered = session_of c.number_adt.new.session in
    let session = session_of c.give_impls.new.session in
    let m = map_state c.give_impls.new.def_map in
    let derives = c.as_slice.result.now in
    let of_item = subst (λ o. IfSome o (λ adt. (u : State) → IsAdt (record u { session = numbered }) site c.args.node.now c.args.node.now.kind adt)) c.in-Some.is c.in_ok-adt.ensures.numbered in
    on_both c.give_impls.result c.give_impls.ensures.given c.give_impls.ensures.own (λ given added t.
    let s : State = with_deferred t c.args.session.now c.args.def_map.now c.args.deferred.now in
    gave_impls oracle s site c.args.node.now numbered session c.in_ok-adt.ensures.own c.in-Some.adt added (of_item s)
    m (deferrals_of c.take.new.self) (c.take.ensures.left ∙ ap (without_deferred s.deferred) c.position-position.ensures)
    derives (c.as_slice.ensures ∙ c.in-Some-take.ensures.taken ∙ ap (deferred_in s.deferred) c.position-position.ensures)
    (subst (λ p. AreGiven oracle session site.scope p c.in-Some.adt derives s.map m) c.position-position.ensures given))
