pub mod Shelves
pub mod Images
pub mod Memory
pub mod Names
