pub mod Rules
pub mod Signs
pub mod Digits
pub mod OnePass
pub mod ByValue
pub mod Spelling
pub mod Months
pub mod Examples
