pub mod Levels
pub mod Setting
