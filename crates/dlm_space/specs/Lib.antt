pub mod Queues
pub mod Locks
pub mod Parts
pub mod Calls
pub mod Sound
pub mod Orderly
pub mod Releasing
