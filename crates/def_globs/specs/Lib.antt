pub mod Waves
pub mod Globs
pub mod Pending
pub mod Raised
