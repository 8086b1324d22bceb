pub mod Blocks
pub mod Indexed
pub mod Unmarked
