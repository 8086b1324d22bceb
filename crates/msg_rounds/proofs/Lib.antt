pub mod Lawful
pub mod Making
pub mod Examples
