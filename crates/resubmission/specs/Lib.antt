pub mod Rows
pub mod InForce
pub mod Plain
pub mod Code
