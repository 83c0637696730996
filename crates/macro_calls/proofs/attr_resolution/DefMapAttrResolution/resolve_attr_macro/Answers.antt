use Rattle.std.proofs.Common.{Err, ap, sym, ◌∙◌}
use Rattle.macro_calls.specs.AttrResolution as resolution
use Rattle.macro_calls.proofs.PathLemmas.{cloned_path}
use Rattle.macro_calls.proofs.attr_resolution.DefMapAttrResolution.resolve_attr_macro.Goals as goal

pub returns-in-Other : goal.returns-in-Other
returns-in-Other g c =
    ap (resolution.resolved c.args.attr.now)
    (sym c.in-Other.is
    ∙ c.attr_meaning.ensures
    ∙ (λ i. resolution.attr_meaning (c.world-world.ensures.world i) (c.world-world.ensures.state i).krate.tools c.args.original_module c.args.ast_id c.args.attr_id c.args.attr.now c.args.macro_depth))

pub returns-in-Macro : goal.returns-in-Macro
returns-in-Macro g c =
    ap (resolution.resolved c.args.attr.now)
    (sym c.in-Macro.is
    ∙ c.attr_meaning.ensures
    ∙ (λ i. resolution.attr_meaning (c.world-world.ensures.world i) (c.world-world.ensures.state i).krate.tools c.args.original_module c.args.ast_id c.args.attr_id c.args.attr.now c.args.macro_depth))

pub returns-in_ok-clone-in-Unresolved : goal.returns-in_ok-clone-in-Unresolved
returns-in_ok-clone-in-Unresolved g c =
    ap (λ p. Err (record { path = p })) (cloned_path c.args.attr.now.path _ c.in_ok-clone-in-Unresolved.ensures.cases)
    ∙ ap (resolution.resolved c.args.attr.now)
    (sym c.in-Unresolved.is
    ∙ c.attr_meaning.ensures
    ∙ (λ i. resolution.attr_meaning (c.world-world.ensures.world i) (c.world-world.ensures.state i).krate.tools c.args.original_module c.args.ast_id c.args.attr_id c.args.attr.now c.args.macro_depth))
