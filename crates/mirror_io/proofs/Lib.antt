pub mod Lookups
pub mod Order
mod Tables
