pub mod Judging
pub mod Changing
pub mod Telling
pub mod Transferring
