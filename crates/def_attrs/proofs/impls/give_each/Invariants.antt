use Rattle.std.proofs.Common.{take}
use Rattle.def_interner.specs.Session.{session_of}
use Rattle.def_modules.specs.Maps.{map_state}
use Rattle.def_attrs.proofs.ImplsLemmas.{GaveFor}
use Rattle.def_attrs.proofs.impls.give_each.Given as goal

abbrev pub invariant-traits : goal.invariant-traits
invariant-traits g l =
    GaveFor (session_of l.fn.session) (session_of l.session) l.item.module_id l.item.adt l.derive (take l.derived-index l.derived-items) l.last (map_state l.fn.def_map) (map_state l.def_map)
