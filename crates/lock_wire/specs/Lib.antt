pub mod Locals
pub mod Packets
pub mod Machine
pub mod Parts
