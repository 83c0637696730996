pub mod Directories
pub mod DeriveNames
pub mod ProcMacros
