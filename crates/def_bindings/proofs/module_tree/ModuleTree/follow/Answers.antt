use Rattle.std.proofs.Common.{◌∙◌, sym, ap, inl, inr}
use Rattle.std.specs.Prelude.{slice_get}
use Rattle.def_bindings.specs.TreeLaws.{above_of-next}
use Rattle.def_bindings.proofs.module_tree.ModuleTree.follow.Goals as goal
use Rattle.def_bindings.proofs.module_tree.ModuleTree.follow.Goals.{then-is_own+in_default, else-is_own}

pub returns-clause-at : goal.returns-clause-at
returns-clause-at c =
    let t = c.args.self.now in
    c.containing_from.ensures.at ∙ ap (λ n. slice_get t.containing n) c.requires ∙ above_of-next t.map t.parents t.containing c.args.here.at (elim c.if-is_own.branch [
      | then-is_own+in_default w ↦ inl (sym w.in_default.ensures)
      | else-is_own w ↦ inr (sym c.is_own.ensures ∙ w.if-is_own.false)
    ])
