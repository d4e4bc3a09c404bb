pub mod Tally
pub mod Placed
