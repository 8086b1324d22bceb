pub mod Broken
pub mod Since
pub mod Moments
