pub mod GrammarLaws
pub mod HeaderLaws
pub mod PageLaws
pub mod Spelled
