pub mod Tables
pub mod MapLaws
