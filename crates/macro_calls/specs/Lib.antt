pub mod Written
pub mod AttrResolution
