pub mod Taking
pub mod RunLaws
