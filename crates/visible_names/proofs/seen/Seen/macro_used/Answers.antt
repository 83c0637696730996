use Rattle.std.proofs.Common.{Option, ap}
use Rattle.tree_ids.specs.declared.name.Name.{Name}
use Rattle.def_ids.specs.declared.ids.MacroId.{MacroId}
use Rattle.visible_names.proofs.seen.Seen.macro_used.Goals as goal

pub returns : goal.returns
returns g c = cc (c.copied.ensures, c.get.ensures.value, ap (λ (f : Name → Option MacroId). f c.args.name) c.macro_use_prelude.ensures)
