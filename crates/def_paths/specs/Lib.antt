pub mod Answers
pub mod OuterMaps
pub mod PathAnswer
pub mod Paths
