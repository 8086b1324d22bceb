pub mod Calm
pub mod Stays
pub mod Covers
pub mod Settling
pub mod Windows
pub mod Promises
