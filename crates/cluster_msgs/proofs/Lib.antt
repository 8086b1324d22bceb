pub mod Bytes
pub mod Said
pub mod Spelling
