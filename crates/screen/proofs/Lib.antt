pub mod Signs
pub mod Transfers
pub mod OneStepped
pub mod FieldValues
