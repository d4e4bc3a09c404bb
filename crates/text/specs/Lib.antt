pub mod Rules
pub mod Characters
pub mod Order
pub mod Places
