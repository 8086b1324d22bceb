pub mod ListLemmas
pub mod Keeping
pub mod Aways
pub mod Acting
pub mod Gathering
pub mod Closing
