pub mod Reads
pub mod Compared
