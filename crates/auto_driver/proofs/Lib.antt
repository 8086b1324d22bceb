pub mod Accepted
pub mod Stormy
