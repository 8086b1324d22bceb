pub mod Helping
pub mod Storming
