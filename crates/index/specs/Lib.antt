pub mod Entries
pub mod Code
pub mod Standing
pub mod Whole
pub mod Slots
