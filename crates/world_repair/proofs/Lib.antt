pub mod Guarding
pub mod Looking
pub mod Changing
pub mod Accepting
pub mod Reaching
