mod Apart
mod Changes
mod Examples
mod Falling
mod GoingExamples
mod GoingFacts
mod GoingOn
mod Guards
mod Kept
mod Others
mod Ranks
pub mod Runs
pub mod RunsSound
mod Steps
pub mod Tells
mod ToldGoing
pub mod Three
mod WrongMachines
pub mod Follows
mod Unstuck
