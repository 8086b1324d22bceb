pub mod Lists
pub mod LinkLaws
pub mod Changed
pub mod Wires
pub mod Reports
