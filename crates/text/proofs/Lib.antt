pub mod Tests
pub mod Lists
pub mod Places
pub mod Inverse
pub mod Ors
pub mod Classes
pub mod Orders
pub mod Examples
