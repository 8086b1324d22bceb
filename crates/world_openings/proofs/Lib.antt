mod Headers
mod Empty
mod Members
mod Written
pub mod HeaderLegs
