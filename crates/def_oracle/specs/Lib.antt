pub mod Queries
pub mod Oracle
