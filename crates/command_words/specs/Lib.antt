pub mod Arrays
pub mod Commands
pub mod Grammar
pub mod InRows
pub mod Names
pub mod Words
