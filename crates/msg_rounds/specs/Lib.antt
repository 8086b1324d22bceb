pub mod Example
pub mod Holds
pub mod Locks
pub mod Made
pub mod Phases
pub mod Refusals
