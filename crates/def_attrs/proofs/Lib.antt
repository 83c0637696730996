pub mod AttrsLemmas
pub mod DerivesLemmas
pub mod ImplsLemmas
pub mod HelpersLemmas
