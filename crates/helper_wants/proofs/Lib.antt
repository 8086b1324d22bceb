pub mod WantLaws
