pub mod Alike
pub mod Stored
pub mod Chunk
pub mod Names
