pub mod Flights
pub mod Chunks
