pub mod Places
pub mod Copies
pub mod Recoveries
pub mod Additions
