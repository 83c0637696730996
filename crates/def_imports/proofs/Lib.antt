pub mod GlobLemmas
pub mod GlanceLemmas
pub mod TurnsLemmas
