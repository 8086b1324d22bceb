pub mod Arrays
pub mod Faults
pub mod Laws
pub mod Layout
pub mod Pieces
pub mod Superblock
pub mod Words
