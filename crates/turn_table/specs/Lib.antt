pub mod Lists
pub mod Views
pub mod Rule
pub mod Away
pub mod Seats
pub mod Turns
pub mod Held
pub mod Gathered
