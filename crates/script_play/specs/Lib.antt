pub mod Drivers
pub mod Playing
pub mod QueryAnswers
pub mod Running
pub mod Texts
