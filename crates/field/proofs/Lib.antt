pub mod Filled
pub mod EachByValue
pub mod OneAnswer
pub mod Examples
pub mod Bols
