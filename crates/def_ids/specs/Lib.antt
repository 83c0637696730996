pub mod Ids
pub mod Equality
