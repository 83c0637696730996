use Rattle.std.proofs.Common.{ap, ◌∙◌, Option, codes}
use Rattle.tree_ids.specs.declared.ids.FileId.{FileId}
use Rattle.def_map.specs.Oracle.{Oracle}
use Rattle.uses.proofs.examples.oracle.database.Goals as goal

abbrev asked : Oracle → Option FileId
asked oracle = oracle.resolve_path (record { 0 = 0 }) (codes "a.rs")

pub returns : goal.returns
returns c = record { path = ap asked c.in_ok-add_crate.ensures.ok ∙ ap asked c.in_ok-add_path.ensures.ok }
