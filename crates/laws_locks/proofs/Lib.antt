pub mod Guarded
pub mod Keeping
pub mod Told
mod Sending
mod Finishing
mod Receiving
mod Coming
mod Granting
mod Unseen
mod Steps
pub mod Facts
pub mod Runs
mod Falls
mod Onward
mod Unmoved
mod Holders
mod Nodes
mod Devices
mod Turns
mod Resting
mod Publish
pub mod Words
mod OtherRounds
mod OtherRows
pub mod Unblocking
pub mod OtherRuns
pub mod GoingRuns
pub mod Emptied
mod OwnRows
mod EmptyNodes
mod EmptyRows
mod Calling
mod CalledRounds
mod CalledRows
pub mod CalledRuns
