pub mod ScopesLemmas
pub mod RareLemmas
pub mod MapsLemmas
pub mod CrateLemmas
pub mod LegacyLemmas
pub mod HelpersLemmas
mod WritesFacts
pub mod TextualLemmas
pub mod FreshLemmas
pub mod BareLemmas
pub mod EmptiedLemmas
mod MapsFacts
mod SeedsFacts
