pub mod Answer
pub mod Full
pub mod Code
