pub mod LegLaws
pub mod NextLegs
pub mod DataLaws
pub mod ArrayLaws
