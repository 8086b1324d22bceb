pub mod SetLaws
pub mod ViewLaws
pub mod LegsLeftLaws
