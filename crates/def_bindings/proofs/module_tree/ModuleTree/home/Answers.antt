use Rattle.std.proofs.Common.{refl, sym, ap, ◌∙◌}
use Rattle.def_bindings.specs.Chains.{first_no_root}
use Rattle.def_bindings.specs.TreeLaws.{chain_of-next}
use Rattle.def_ids.specs.Ids.{is_block_root}
use Rattle.def_bindings.proofs.module_tree.ModuleTree.home.Goals as goal

pub returns-then-not-is_block_root : goal.returns-then-not-is_block_root
returns-then-not-is_block_root c =
    let t = c.args.self.now in
    sym (
    ap (λ ms. first_no_root is_block_root ms c.args.start) (chain_of-next t.map t.parents t.containing t.lower t.apart c.args.start)
    ∙ rw (sym c.is_block_root.ensures ∙ c.if-not-is_block_root.true) refl)
