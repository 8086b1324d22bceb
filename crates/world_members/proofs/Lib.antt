pub mod Replacing
pub mod Stepping
pub mod Telling
