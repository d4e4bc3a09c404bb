pub mod Marks
pub mod Hexes
pub mod Inside
pub mod Examples
