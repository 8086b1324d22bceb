mod DriverLaws
mod Within
pub mod Played
pub mod Ran
pub mod Sound
