use Rattle.std.proofs.Common.{ap, ◌∙◌}
use Rattle.def_sources.specs.Asking.{world_lent}
use Rattle.def_paths.specs.Paths.{module_found, resolve}
use Rattle.def_paths.proofs.path_resolution.resolve_module.Goals as goal

pub returns : goal.returns
returns g c =
    let w = world_lent g.D.PathDatabase.oracle g.T.BindingTable.content c.args.world.now in
    c.module_reached.ensures
    ∙ ap module_found c.resolve_path_fp_with_macro-answer.ensures
    ∙ ap (λ asked. module_found (resolve w asked c.args.original_module c.args.path.now)) c.for_module.ensures
