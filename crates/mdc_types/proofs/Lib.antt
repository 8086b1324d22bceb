pub mod BitsLaws
pub mod Blocks
pub mod PageLaws
pub mod RolesLaws
pub mod SetBlocks
