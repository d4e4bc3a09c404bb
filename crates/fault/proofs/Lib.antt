pub mod Fields
pub mod Leaves
pub mod Keys
