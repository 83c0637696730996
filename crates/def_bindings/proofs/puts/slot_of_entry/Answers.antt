use Rattle.std.proofs.Common.{rules}
use Rattle.def_bindings.proofs.puts.slot_of_entry.Goals as goal

pub returns-in-None-Types-Trait : goal.returns-in-None-Types-Trait
returns-in-None-Types-Trait g c = search rules
