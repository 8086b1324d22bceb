pub mod Flight
pub mod Lends
pub mod Places
pub mod Table
