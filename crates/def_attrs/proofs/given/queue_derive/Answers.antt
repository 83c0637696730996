use Rattle.std.proofs.Common.{[], ◌++◌, ◌∷◌, ap, ◌∙◌}
use Rattle.def_calls.specs.Shown.{macros_in}
use Rattle.def_calls.proofs.WaitingLemmas.{macros_push}
use Rattle.def_attrs.proofs.given.queue_derive.Goals as goal

pub returns : goal.returns
returns c =
    let old = c.args.directives.now.items in
    ap macros_in c.in_ok-push_back.ensures.items ∙ macros_push old _ ∙ ap (λ x. macros_in old ++ x ∷ []) c.derive.ensures
