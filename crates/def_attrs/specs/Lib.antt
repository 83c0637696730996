pub mod ItemAttrs
pub mod Shown
