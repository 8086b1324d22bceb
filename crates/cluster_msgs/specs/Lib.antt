pub mod Layout
pub mod Messages
pub mod Ranges
pub mod Reading
