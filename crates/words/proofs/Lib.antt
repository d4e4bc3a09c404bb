pub mod Digits
pub mod Insides
pub mod Examples
pub mod Bytewise
