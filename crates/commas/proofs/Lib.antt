pub mod Steps
pub mod Naming
pub mod Examples
