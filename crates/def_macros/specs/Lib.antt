pub mod Censored
pub mod Numbered
pub mod ProcMacros
pub mod Shown
