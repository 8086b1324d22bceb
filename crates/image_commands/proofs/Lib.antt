pub mod CreateLaws
