pub mod Found
pub mod SetLaws
pub mod Points
pub mod Setting
mod LegLaws
mod Emptied
pub mod Carrying
pub mod Changing
