pub mod Runs
pub mod Views
pub mod Invariants
pub mod Tickets
pub mod Made
pub mod Fresh
pub mod First
pub mod Sound
