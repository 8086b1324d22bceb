pub mod Faults
pub mod Lines
pub mod Sets
pub mod Shown
