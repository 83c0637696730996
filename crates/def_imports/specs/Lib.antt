pub mod GlobEntries
pub mod Glances
pub mod Sweeps
pub mod Turns
pub mod Room
pub mod PreludeModule
