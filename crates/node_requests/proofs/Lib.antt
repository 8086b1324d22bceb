pub mod Flights
mod Sectors
mod Room
pub mod Guarded
