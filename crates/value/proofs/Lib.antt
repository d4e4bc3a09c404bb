pub mod Places
pub mod Ruled
pub mod OneValue
pub mod Examples
