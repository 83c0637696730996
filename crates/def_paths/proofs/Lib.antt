pub mod AnswersLemmas
pub mod AroundLemmas
pub mod MacroLemmas
pub mod PathsFacts
mod OuterPathsFacts
