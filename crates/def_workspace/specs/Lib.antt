pub mod Command
pub mod Workspace
