pub mod Rooms
pub mod Points
pub mod Listing
