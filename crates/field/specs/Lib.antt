pub mod Types
pub mod Judge
pub mod Leaves
pub mod Keys
pub mod Codes
