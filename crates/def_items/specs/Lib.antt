pub mod Lists
pub mod Numbered
pub mod Parts
