pub mod NumbersLemmas
pub mod PlacesLemmas
pub mod PathLemmas
