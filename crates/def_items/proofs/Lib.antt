pub mod ItemsLemmas
pub mod NumberedLemmas
pub mod OrderLemmas
