pub mod Names
pub mod Closed
pub mod Opened
pub mod Rows
pub mod Ends
pub mod Laws
