pub mod Record
pub mod File
pub mod Code
pub mod Right
