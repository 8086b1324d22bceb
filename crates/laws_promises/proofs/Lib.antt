pub mod Pages
pub mod Promises
pub mod Headers
