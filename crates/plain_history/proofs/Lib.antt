mod Examples
pub mod Apart
pub mod Members
pub mod SeenLaw
pub mod OpenLaw
mod Recursions
pub mod Lookups
pub mod Following
mod Scans
pub mod Traces
