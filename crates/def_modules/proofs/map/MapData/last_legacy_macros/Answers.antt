use Rattle.std.proofs.Common.{◌∙◌, ap, refl, subst, sym}
use Rattle.std.specs.Prelude.{IfOk}
use Rattle.std.proofs.lemmas.Option.{slice_get_past, slice_get_read}
use Rattle.def_modules.specs.ScopeMaps.{AreLastOf, defined_all, with_last}
use Rattle.def_modules.proofs.TextualLemmas.{textual_missing, textual_there}
use Rattle.def_modules.proofs.map.MapData.last_legacy_macros.Goals as goal

pub returns-in-Some : goal.returns-in-Some
returns-in-Some c =
    let modules = c.as_slice.result.now in
    let found = c.in-Some.found.now in
    let there = c.in-Some.ensures.lookup in
    subst (λ textual. IfOk c.last_legacy_macros.result (λ last. AreLastOf textual last.items))
    (sym (textual_there c.args.self.now c.args.module modules found c.as_slice.ensures.value (sym (slice_get_read modules _ c.args.module found refl there.3.0 there.1))))
    c.last_legacy_macros.ensures

pub returns-in-None : goal.returns-in-None
returns-in-None c = λ own.
    let modules = c.as_slice.result.now in
    ap (defined_all own) c.new.ensures.items
    ∙ ap (λ textual. λ x. with_last (textual x) (own x))
    (sym (textual_missing c.args.self.now c.args.module modules c.as_slice.ensures.value (sym (slice_get_past modules c.args.module c.in-None.ensures.lookup.3))))
