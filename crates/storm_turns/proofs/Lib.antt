pub mod NumberLists
pub mod Flights
pub mod Draws
