use Rattle.std.proofs.Common.{◌∙◌, sym, ap, add-one}
use Rattle.std.specs.Prelude.{slice_get}
use Rattle.std.proofs.lemmas.Option.{slice_get-get_or, slice_get_past}
use Rattle.def_bindings.specs.TreeLaws.{next_of-containing}
use Rattle.def_bindings.proofs.module_tree.ModuleTree.containing_from.Goals as goal

pub returns-then-index-containing-clause-next : goal.returns-then-index-containing-clause-next
returns-then-index-containing-clause-next c =
    let t = c.args.self.now in
    add-one c.args.index ∙ next_of-containing t.map t.parents t.containing t.apart c.args.index _ (ap (λ xs. slice_get xs c.args.index) (sym c.as_slice-containing.ensures) ∙ slice_get-get_or c.as_slice-containing.result.now c.args.index _ c.if-index-containing.true)

pub returns-else-index-containing-clause-at : goal.returns-else-index-containing-clause-at
returns-else-index-containing-clause-at c =
    sym (ap (λ xs. slice_get xs c.args.index) (sym c.as_slice-containing.ensures) ∙ slice_get_past c.as_slice-containing.result.now c.args.index c.if-index-containing.false)
