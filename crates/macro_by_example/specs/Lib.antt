pub mod Rules
pub mod Written
