pub mod Showing
pub mod OneShown
pub mod Examples
