pub mod TokensLemmas
