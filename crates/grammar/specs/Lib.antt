pub mod Sets
pub mod Right
pub mod Walk
pub mod Table
