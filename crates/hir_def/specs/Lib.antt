pub use Rattle.def_modules.specs.Locals
pub use Rattle.def_map.specs.Queries
pub use Rattle.def_map.specs.Oracle
pub use Rattle.def_map.specs.DefMaps
pub use Rattle.def_map.specs.MapStates
