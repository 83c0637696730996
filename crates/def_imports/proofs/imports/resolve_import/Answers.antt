use Rattle.std.proofs.Common.{ap, ◌∙◌}
use Rattle.def_map.specs.Asking.{world_lent}
use Rattle.def_map.specs.Paths.{resolve}
use Rattle.def_sources.specs.Tables.{bound_by}
use Rattle.def_imports.proofs.imports.resolve_import.Goals as goal

pub returns : goal.returns
returns g c =
    c.resolve_path_fp_with_macro.ensures
    ∙ ap (λ asked. resolve (world_lent g.D.SourceDatabase.oracle bound_by c.args.world.now) asked c.args.import.now.module_id c.args.import.now.written.now.path) c.for_import.ensures
