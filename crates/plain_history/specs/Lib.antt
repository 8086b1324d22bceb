pub mod History
pub mod Seen
pub mod Open
pub mod Asked
pub mod Tables
pub mod Runs
