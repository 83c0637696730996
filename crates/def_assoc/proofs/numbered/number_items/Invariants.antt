use Rattle.std.proofs.Common.{take}
use Rattle.std.specs.List.{AllZip}
use Rattle.def_interner.specs.Session.{session_of}
use Rattle.def_assoc.specs.Numbered.{AddsNamed, IsNumbered}
use Rattle.def_assoc.proofs.numbered.number_items.Given as goal

abbrev pub invariant-items : goal.invariant-items
invariant-items l = record {
  numbered : AllZip (IsNumbered (session_of l.session) l.container) (take l.item-index l.named) l.items.items;
  adds : AddsNamed l.container l.named (session_of l.fn.session) (session_of l.session);
}
