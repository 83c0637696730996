use Rattle.std.proofs.Common.{[], ap, sym, ◌∙◌}
use Rattle.std.specs.HashMap.{get_by}
use Rattle.std.specs.Option.{option_copied}
use Rattle.std.specs.Prelude.{unwrap_or}
use Rattle.def_modules.specs.EqualityLaws.{macros_same}
use Rattle.def_attrs.proofs.derives.shown_helpers.Goals as goal

pub returns-in-Some : goal.returns-in-Some
returns-in-Some c =
    c.as_slice.ensures
    ∙ ap (λ o. unwrap_or o []) (ap option_copied (sym c.in-Some.is) ∙ c.get.ensures.value ∙ (λ i. get_by (macros_same i c.args.id) c.exported_derives.result.now))
    ∙ ap (λ f. unwrap_or (f c.args.id) []) c.exported_derives.ensures

pub returns-in-None : goal.returns-in-None
returns-in-None c =
    ap (λ o. unwrap_or o []) (ap option_copied (sym c.in-None.is) ∙ c.get.ensures.value ∙ (λ i. get_by (macros_same i c.args.id) c.exported_derives.result.now))
    ∙ ap (λ f. unwrap_or (f c.args.id) []) c.exported_derives.ensures
