pub mod Signs
pub mod Follow
