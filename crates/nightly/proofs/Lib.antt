pub mod Rooms
pub mod Lists
