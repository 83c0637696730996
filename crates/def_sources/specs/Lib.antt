pub mod PerNs
pub mod Items
pub mod Sources
pub mod Asking
pub mod Modes
pub mod Tables
