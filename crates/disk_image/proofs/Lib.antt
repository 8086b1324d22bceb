pub mod Sectors
pub mod Origins
pub mod Placed
pub mod NewImages
