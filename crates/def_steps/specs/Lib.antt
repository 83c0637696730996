pub mod Shown
pub mod Listed
pub mod ImportLists
pub mod GlobScopes
