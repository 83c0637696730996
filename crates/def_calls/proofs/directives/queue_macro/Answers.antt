use Rattle.std.proofs.Common.{◌++◌, ◌∷◌, [], ap, ◌∙◌}
use Rattle.def_calls.specs.Shown.{kind_of, macros_in}
use Rattle.def_calls.proofs.WaitingLemmas.{macros_push}
use Rattle.def_calls.proofs.directives.queue_macro.Goals as goal

pub returns : goal.returns
returns c =
    ap macros_in c.in_ok-push_back.ensures.items
    ∙ macros_push c.args.directives.now.items _
    ∙ (λ i. macros_in c.args.directives.now.items
    ++ (record { scope = c.args.site.now.module_id; container = c.args.site.now.container; position = c.position.ensures i; depth = c.deeper.ensures i; kind = kind_of c.args.kind }) ∷ [])
