pub mod GivenBack
pub mod RowLaws
pub mod Backs
