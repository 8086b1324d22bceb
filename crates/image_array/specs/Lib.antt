pub mod Agreement
pub mod Legs
pub mod Heads
pub mod Values
pub mod Laws
