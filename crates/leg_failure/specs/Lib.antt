pub mod Sets
pub mod Views
pub mod Losses
pub mod Withdrawals
pub mod LegsLeft
