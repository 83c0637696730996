use Rattle.std.proofs.Common.{ap, Some}
use Rattle.tree_ids.specs.contracts.ids.TreeIdPartialEq.TheImpl as trees
use Rattle.def_modules.proofs.CrateLemmas.{rekeyed}
use Rattle.def_database.specs.Database.{answers_of, tree_eq}
use Rattle.def_database.proofs.FillingLemmas.{trees_same}
use Rattle.def_database.proofs.database.Database.add_tree.Goals as goal

pub returns-clause-ok : goal.returns-clause-ok
returns-clause-ok c =
    let e = rekeyed trees.ghosts.eq tree_eq trees_same c.args.self.now.files.trees c.insert.new.self c.args.id (Some c.args.tree) c.in_ok-insert.ensures.updates.0 in
    ap (λ f. record (answers_of c.args.self.now) { item_tree = f }) e
