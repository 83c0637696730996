pub mod IterLemmas
mod DefMapsFacts
