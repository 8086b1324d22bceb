pub mod Wants
pub mod Lines
pub mod Helpers
pub mod Storms
