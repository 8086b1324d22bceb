pub mod Sizes
pub mod Slots
pub mod Compare
pub mod Legs
