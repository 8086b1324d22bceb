pub mod Legs
pub mod Requests
pub mod Copies
pub mod Laws
