pub mod Changed
pub mod Kept
pub mod Told
pub mod Ready
