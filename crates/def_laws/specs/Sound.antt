-- Names that are closed and coherent along the edges of globs.
use Rattle.std.specs.Prelude.{Bool, List}
use Rattle.def_ids.specs.declared.ids.ModuleId.{ModuleId}
use Rattle.def_bindings.specs.declared.bindings.Slot.{Slot}
use Rattle.def_bindings.specs.declared.visibility.Visibility.{Visibility}
use Rattle.def_bindings.specs.Closure.{IsClosed, IsCoherent}
use Rattle.def_bindings.specs.Content.{Content}
use Rattle.def_bindings.specs.Order.{Order}
use Rattle.def_bindings.specs.Visibility.{order_over}
use Rattle.def_modules.specs.MapState.{MapState}
use Rattle.def_modules.specs.Maps.{facts_in}
use Rattle.def_globs.specs.Raised.{IsRaisedAt}
use Rattle.def_globs.specs.Waves.{AreSingle, BeginsAt, Led}
use Rattle.def_rules.specs.Globs.{Targets}
use Rattle.def_rules.specs.State.{State, Task}
use Rattle.def_rules.specs.Targets.{leaves_out, target_of}
use Rattle.def_laws.specs.Own.{Stands}

-- the order of visibilities of a map
abbrev pub order_in : MapState → Order Visibility
order_in m = order_over (facts_in m).chain

-- names are closed and coherent along the edges of the recorded globs, but in the modules that are left out, and each edge stands where its glob leads
pub record AreSound (left_out : ModuleId → Bool) (m : MapState) (targets : Targets) (c : Content Visibility) : Type 0 where
  pub closed : IsClosed (order_in m) left_out c
  pub coherent : IsCoherent (order_in m) left_out (target_of m.id targets) c
  -- an edge of a glob begins at the module that the glob leads to
  pub begins : BeginsAt (target_of m.id targets) c
  -- an edge of a glob leads to each module in which that glob bound a name
  pub led : Led left_out (target_of m.id targets) c
  pub single : AreSingle c

-- the names of a state are sound
abbrev pub IsSound : State → Type 0
IsSound s = AreSound (leaves_out s) s.map s.targets s.content

-- no edge would raise a place of a state
abbrev pub IsRaisedIn : State → ModuleId → Slot → Type 0
IsRaisedIn s importer slot = IsRaisedAt (order_in s.map) s.content importer slot

-- names are sound and all is of the map, with this still to be done
pub record IsSoundWith (todo : List Task) (s : State) : Type 0 where
  pub stands : Stands todo s
  pub sound : IsSound s

-- names that are sound stay so, whatever is to be done first
abbrev pub KeepsSound : List Task → State → State → Type 0
KeepsSound tasks s t = Stands tasks s → IsSound s → IsSound t
