pub mod Starts
pub mod Playing
pub mod Ends
