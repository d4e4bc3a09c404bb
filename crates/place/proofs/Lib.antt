pub mod Counted
pub mod Lies
pub mod Points
pub mod Examples
