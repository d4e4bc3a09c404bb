pub mod Fields
pub mod Reading
pub mod Subjects
pub mod Standing
pub mod Each
pub mod Answers
pub mod Both
pub mod Examples
