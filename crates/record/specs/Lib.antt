pub mod Records
pub mod Step
pub mod Eight
pub mod Found
