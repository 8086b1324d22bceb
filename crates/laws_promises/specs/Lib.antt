pub mod Legs
pub mod Promises
pub mod Laws
