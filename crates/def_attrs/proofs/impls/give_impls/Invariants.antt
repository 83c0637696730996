use Rattle.std.proofs.Common.{take}
use Rattle.def_interner.specs.Session.{session_of}
use Rattle.def_modules.specs.Maps.{map_state}
use Rattle.def_rules.specs.Deferred.{AreGiven}
use Rattle.def_rules.specs.Locations.{AddsImpls}
use Rattle.def_attrs.proofs.impls.give_impls.Given as goal

abbrev pub invariant-derives : goal.invariant-derives
invariant-derives g l = record {
  given : AreGiven (g.D.SourceDatabase.oracle l.db) (session_of l.session) l.item.module_id l.item.position l.item.adt (take l.derive-index l.derives) (map_state l.fn.def_map) (map_state l.def_map);
  own : AddsImpls l.item.adt (session_of l.fn.session) (session_of l.session);
}
