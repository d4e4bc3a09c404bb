pub mod Rfc
pub mod Walk
pub mod Skim
