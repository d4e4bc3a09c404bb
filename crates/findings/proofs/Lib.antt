pub mod KeyBefore
pub mod NoDay
pub mod Passing
