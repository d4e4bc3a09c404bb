pub mod Sheets
pub mod Write
pub mod Read
pub mod Code
