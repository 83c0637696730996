pub mod ByMacro
pub mod Calls
pub mod Database
pub mod Filling
