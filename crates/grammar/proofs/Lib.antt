pub mod Runs
pub mod Left
pub mod Walks
pub mod Once
pub mod Rows
pub mod TableWalks
pub mod Examples
