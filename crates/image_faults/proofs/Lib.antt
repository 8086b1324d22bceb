pub mod SlotLaws
pub mod LegLaws
