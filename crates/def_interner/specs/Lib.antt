pub mod Exact
pub mod ExactLaws
pub mod MacroKinds
pub mod Interner
pub mod Session
pub mod SessionLaws
