pub mod Ends
pub mod Stored
pub mod Upgrading
pub mod Told
