-- What a module shows after its rare parts are written.
use Rattle.def_modules.specs.MapState.{ModuleState}
use Rattle.def_modules.specs.RareParts.{RareState}

-- a module that shows these rare parts in the place of its own
abbrev pub with_rare : RareState → ModuleState → ModuleState
with_rare r m =
    record m {
      extern_crates = r.extern_crates;
      extern_blocks = r.extern_blocks;
      unnamed_consts = r.unnamed_consts;
      derive_impls = r.derive_impls;
      derives = r.derives;
      invoked = r.invoked;
      failed = r.failed;
    }
