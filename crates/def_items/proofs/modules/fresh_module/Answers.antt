use Rattle.std.proofs.Common.{Some, ap, refl, sym, ◌∙◌}
use Rattle.std.proofs.lemmas.Option.{slice_get_past, slice_get_read}
use Rattle.std.proofs.lemmas.Result.{IfOk-weaker}
use Rattle.def_modules.specs.Scopes.{empty_module, with_textual_of}
use Rattle.def_modules.proofs.TextualLemmas.{textual_missing, textual_there}
use Rattle.def_items.proofs.modules.fresh_module.Goals as goal

pub returns-in-None : goal.returns-in-None
returns-in-None c =
    IfOk-weaker c.new.result _ _
    (λ made is.
    is
    ∙ ap (λ textual. with_textual_of textual (empty_module (Some c.args.added.name) c.args.origin c.args.added.vis))
    (sym (textual_missing c.args.def_map.now c.args.added.parent.index c.deref.result.now c.deref.ensures.value
    (sym (slice_get_past c.deref.result.now c.args.added.parent.index c.in-None.ensures.lookup.3)))))
    c.new.ensures

pub returns-in-Some : goal.returns-in-Some
returns-in-Some c =
    IfOk-weaker c.within.result _ _
    (λ made is.
    is
    ∙ ap (λ textual. with_textual_of textual (empty_module (Some c.args.added.name) c.args.origin c.args.added.vis))
    (sym (textual_there c.args.def_map.now c.args.added.parent.index c.deref.result.now c.in-Some.around.now c.deref.ensures.value
    (sym (slice_get_read c.deref.result.now _ c.args.added.parent.index c.in-Some.around.now refl c.in-Some.ensures.lookup.3.0 c.in-Some.ensures.lookup.1)))))
    c.within.ensures
