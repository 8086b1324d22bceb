pub mod Copying
pub mod Sectors
