pub mod Following
pub mod Going
pub mod Invariants
pub mod Machine
pub mod News
pub mod Sound
pub mod Traces
