pub mod Gatherings
pub mod Kept
