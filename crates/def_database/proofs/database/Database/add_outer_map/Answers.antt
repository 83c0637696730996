use Rattle.std.proofs.Common.{ap}
use Rattle.std.specs.Prelude.{option_map}
use Rattle.std.specs.Map.{lookup}
use Rattle.def_map.specs.DefMaps.{view_of}
use Rattle.def_database.specs.Database.{answers_of, block_eq}
use Rattle.def_database.proofs.FillingLemmas.{refused, shown-set}
use Rattle.def_database.proofs.database.Database.add_outer_map.Goals as goal

pub returns-clause-ok : goal.returns-clause-ok
returns-clause-ok c =
    let e = shown-set block_eq view_of c.args.self.now.crates.outer_maps c.insert.new.self c.args.block c.args.def_map c.in_ok-insert.ensures.updates.0 in
    ap (λ f. record (answers_of c.args.self.now) { outer_map = f }) e

pub returns-in_err-insert-clause-err : goal.returns-in_err-insert-clause-err
returns-in_err-insert-clause-err c =
    refused c.from_residual.result (ap (λ es. record (answers_of c.args.self.now) { outer_map = λ block. option_map view_of (lookup (block_eq block) es) }) c.in_err-insert.ensures.err)
