pub mod WaitingLemmas
pub mod FallbackLemmas
