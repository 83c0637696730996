pub mod Mirrors
pub mod Options
pub mod Predicates
pub mod Written
