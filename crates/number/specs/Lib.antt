pub mod Numbers
pub mod Calendar
pub mod Order
pub mod Leaves
