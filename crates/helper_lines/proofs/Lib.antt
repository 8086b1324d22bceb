pub mod Alternatives
pub mod Flights
pub mod Firsts
pub mod Clearing
pub mod Looking
