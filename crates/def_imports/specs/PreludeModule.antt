-- The prelude of a crate.
use Rattle.std.specs.Prelude.{cond, Option, None}
use Rattle.def_ids.specs.declared.ids.ModuleId.{ModuleId}
use Rattle.def_map.specs.Paths.{for_module, module_found, resolve}
use Rattle.def_map.specs.Sources.{World}
use Rattle.def_modules.specs.MapState.{CrateState}
use Rattle.def_rules.specs.Crates.{prelude_path}

-- the module that the prelude's path gives at the root of a world's map, if it gives one; none with `no_core`
abbrev pub prelude_in : CrateState → World → Option ModuleId
prelude_in krate w =
    cond krate.no_core None
    (module_found (resolve w for_module (record { map = w.map.facts.id; index = 0 }) (prelude_path krate.edition krate.no_std w.local)))
