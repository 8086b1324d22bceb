pub mod QueueLaws
pub mod GuardLaws
pub mod PartLaws
pub mod Kept
pub mod Runs
mod Changes
pub mod Told
pub mod Steps
pub mod Releasing
pub mod Leading
mod Examples
