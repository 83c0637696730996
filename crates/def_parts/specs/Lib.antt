pub use Rattle.def_readings.specs.Directories
pub use Rattle.def_readings.specs.DeriveNames
pub mod DirectoriesLaws
pub mod ProcMacros
pub mod Sites
