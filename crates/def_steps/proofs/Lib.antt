pub mod GatherLemmas
pub mod TargetsLemmas
pub mod ImportListsLaws
pub mod ListedLaws
pub mod LeftLemmas
pub mod NamedLemmas
