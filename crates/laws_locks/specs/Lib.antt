pub mod Following
pub mod Rounded
pub mod Others
pub mod Unblocked
pub mod Empties
pub mod Called
pub mod Going
pub mod Laws
