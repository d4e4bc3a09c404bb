pub mod Window
pub mod File
