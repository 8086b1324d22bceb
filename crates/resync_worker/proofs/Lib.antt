pub mod CopyingLaws
pub mod SectorLaws
