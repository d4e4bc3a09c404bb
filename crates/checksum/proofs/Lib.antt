pub mod Pieces
pub mod Sums
pub mod Changes
pub mod Examples
