mod NumberedLemmas
mod OwnersLemmas
mod TreesLemmas
mod WalkLemmas
mod WorkLemmas
