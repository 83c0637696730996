use Rattle.std.proofs.Common.{refl}
use Rattle.def_modules.proofs.seed.crate_data.Goals as goal

pub root_tree-requires : goal.root_tree-requires
root_tree-requires c = rw c.no_items.ensures refl

pub returns : goal.returns
returns c =
    rw (c.in_ok-root_tree.ensures.0, c.in_ok-root_tree.ensures.1, c.in_ok-root_tree.ensures.2, c.in_ok-root_modules.ensures, c.in_ok-new_crate.ensures)
    (rw (c.no_items.ensures, c.new.ensures.empty, c.new-2.ensures.empty, c.new-3.ensures.empty) refl)
