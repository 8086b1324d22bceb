pub mod TextLaws
mod Examples
