pub mod Each
pub mod Rows
pub mod FieldRules
pub mod Names
pub mod Examples
