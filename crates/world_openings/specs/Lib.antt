pub mod Legs
pub mod Members
