pub mod Bitmap
pub mod Cells
pub mod Map
pub mod Opened
