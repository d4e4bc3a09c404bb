pub mod Shown
pub mod Hex
