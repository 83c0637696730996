-- What kept visibilities mean.
use Rattle.std.specs.Prelude.{◌==◌, ◌-◌, cond}
use Rattle.def_ids.specs.declared.ids.MapId.{MapId}
use Rattle.def_bindings.specs.declared.visibility.Visibility.{Visibility}
use Rattle.def_bindings.specs.declared.visibility.Visibility.TheVariants.{Module, PubCrate, Public}
use Rattle.def_tables.specs.declared.kept.VisNumber.{VisNumber}

-- what is kept as it is
abbrev pub as_it_is : {V : Type 0} → MapId → V → V
as_it_is map v = v

-- everywhere, the crate, and then the modules of the map
abbrev pub numbered_vis : MapId → VisNumber → Visibility
numbered_vis map v = cond (v.0 == 0) Public (cond (v.0 == 1) PubCrate (Module (record { map = map; index = v.0 - 2 })))
