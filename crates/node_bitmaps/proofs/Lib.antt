pub mod CellLaws
pub mod FlagLaws
pub mod MapLaws
pub mod SearchLaws
pub mod PageLaws
pub mod LegLaws
pub mod LookLaws
pub mod OpenLaws
