use Rattle.std.proofs.Common.{◌≡◌, map, take}
use Rattle.std.specs.Prelude.{string_bytes}
use Rattle.def_collector.proofs.modules.texts_of.Given as goal

abbrev pub invariant-texts : goal.invariant-texts
invariant-texts l = l.copies.items ≡ map string_bytes (take l.text-index l.texts)
