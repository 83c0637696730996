use Rattle.std.proofs.Common.{subst, sym, take, arith}
use Rattle.std.proofs.lemmas.List.{take_more}
use Rattle.def_interner.specs.Session.{session_of}
use Rattle.def_modules.specs.Maps.{map_state}
use Rattle.def_rules.specs.Deferred.{AreGiven}
use Rattle.def_laws.proofs.LocationsLaws.{only_trans}
use Rattle.def_attrs.proofs.ImplsLemmas.{given_more}
use Rattle.def_attrs.proofs.impls.give_impls.Goals as goal

pub derives-preserved : goal.derives-preserved
derives-preserved g c =
    let oracle = g.D.SourceDatabase.oracle c.args.db.now in
    let item = c.args.item in
    let derives = c.args.derives.now in
    let i = c.derives.derive-index in
    let s = session_of c.derives.session in
    let t = session_of c.give_each.new.session in
    let m = map_state c.args.def_map.now in
    let k = map_state c.give_each.new.def_map in
    record {
      given = subst (λ ds. AreGiven oracle t item.module_id item.position item.adt ds m k) (sym (take_more derives i _ (omega (arith, c.derives-test.true, c.derives.auto.derive-index-end))))
          (given_more oracle item.module_id item.position item.adt s t c.in_ok-give_each.ensures.session (take i derives) _ m (map_state c.derives.def_map) k c.derives.invariant.given c.in_ok-give_each.ensures.given);
      own = only_trans (session_of c.args.session.now) s t c.derives.invariant.own c.in_ok-give_each.ensures.own;
    }
