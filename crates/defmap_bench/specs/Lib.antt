pub mod Database
