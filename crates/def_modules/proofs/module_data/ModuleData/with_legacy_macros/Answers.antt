use Rattle.std.proofs.Common.{refl}
use Rattle.def_modules.proofs.module_data.ModuleData.with_legacy_macros.Goals as goal

pub returns : goal.returns
returns c = rw (c.new.ensures.empty, c.no_items.ensures, c.no_items-2.ensures) refl
