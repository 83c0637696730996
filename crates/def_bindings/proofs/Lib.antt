pub mod SearchLemmas
pub mod TreeLemmas
pub mod PutsFacts
pub mod VisibilityFacts
pub mod ContentFacts
pub mod OwnChainLemmas
pub mod SettledLemmas
