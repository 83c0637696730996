use Rattle.std.proofs.Common.{ap, sym, ◌∙◌}
use Rattle.std.specs.Prelude.{string_bytes, slice_get}
use Rattle.item_tree.proofs.NumberingLemmas.{shown_at_position, shown_nowhere}
use Rattle.item_tree.proofs.name.NameTable.find.Goals as goal

pub returns-in-Some : goal.returns-in-Some
returns-in-Some c =
    ap (λ l. slice_get l c.in-Some.i) (sym c.self.view_is) ∙ shown_at_position string_bytes c.self.inside.texts.keys c.in-Some.i c.args.text.now c.in-Some.ensures.index

pub returns-in-None : goal.returns-in-None
returns-in-None c = λ name at. shown_nowhere string_bytes c.self.inside.texts.keys name.0 c.args.text.now (sym c.in-None.ensures.found) (ap (λ l. slice_get l name.0) c.self.view_is ∙ at)
