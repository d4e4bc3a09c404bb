pub mod Dates
pub mod Lines
pub mod Words
