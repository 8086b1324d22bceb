pub mod First
pub mod Guards
pub mod Modes
pub mod Points
