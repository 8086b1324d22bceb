pub mod Names
pub mod Additions
pub mod Wishes
