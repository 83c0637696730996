pub mod ListsLemmas
pub mod PathsLemmas
pub mod NamesLemmas
pub mod VisibleLemmas
mod VisibleFacts
