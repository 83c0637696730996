use Rattle.std.proofs.Common.{get_or, subst, sym, take, Some, ◌∙◌, arith, ap}
use Rattle.std.proofs.lemmas.List.{take_all, take_more}
use Rattle.def_interner.specs.Session.{session_of}
use Rattle.def_interner.specs.SessionLaws.{adds_trans}
use Rattle.def_modules.specs.Maps.{map_state, with_renamed_helpers}
use Rattle.def_laws.proofs.LocationsLaws.{own_derive_impl}
use Rattle.def_attrs.proofs.ImplsLemmas.{GaveFor, gave_all, gave_more}
use Rattle.def_attrs.proofs.impls.give_each.Goals as goal

pub returns-in_err-define_builtin_derive_impl-clause-session :
    goal.returns-in_err-define_builtin_derive_impl-clause-session
returns-in_err-define_builtin_derive_impl-clause-session g c =
    adds_trans (session_of c.args.session.now) (session_of c.traits.session) (session_of c.intern.new.session) c.traits.invariant.own.adds c.in_ok-id.ensures.adds

pub traits-preserved : goal.traits-preserved
traits-preserved g c =
    let items = c.derive_traits-derived-items.result.now in
    let i = c.traits.derived-index in
    let old = session_of c.args.session.now in
    let t = session_of c.intern.new.session in
    let m = map_state c.args.def_map.now in
    let k = map_state c.define_builtin_derive_impl.new.self in
    subst (λ traits. GaveFor old t c.args.item.module_id c.args.item.adt c.args.derive.now traits (Some c.in_ok-id.id) m k)
    (sym (take_more items i 0 (omega (arith, c.traits-test.true, c.traits.auto.derived-index-end))))
    (gave_more c.args.item.module_id c.args.item.adt c.args.derive.now old (session_of c.traits.session) t (take i items) c.traits.last m (map_state c.traits.def_map) k c.traits.invariant
    (get_or items i 0) c.in_ok-id.id (own_derive_impl c.traits.session c.intern.new.session _ c.in_ok-id.ensures.grown c.in_ok-id.ensures.others c.in_ok-id.ensures.adds) c.in_ok-id.ensures.shown c.in_ok-define_builtin_derive_impl.ensures)

pub returns-in-Some-clause-given : goal.returns-in-Some-clause-given
returns-in-Some-clause-given g c =
    let items = c.derive_traits-derived-items.result.now in
    let old = session_of c.args.session.now in
    let s = session_of c.traits.session in
    let at = c.args.item.module_id in
    let position = c.args.item.position in
    let derive = c.args.derive.now in
    let m = map_state c.args.def_map.now in
    let n = map_state c.traits.def_map in
    let id = c.in-Some.id in
    let traits = (g.D.SourceDatabase.oracle c.args.db.now).derive_traits derive.derive in
    let gave = subst (λ ts. GaveFor old s at c.args.item.adt derive ts c.traits.last m n) (take_all c.traits.derived-index items (omega (arith, c.traits-test.false)) ∙ c.derive_traits-derived-items.ensures) c.traits.invariant in
    gave_all at c.args.item.adt derive old s position traits c.traits.last (Some id) m n (map_state c.rename_derive_helpers.new.self) gave c.in-Some.is
    (c.rename_derive_helpers.ensures ∙ ap (λ x. with_renamed_helpers x position derive.helpers id) c.set_derive_call.ensures)
