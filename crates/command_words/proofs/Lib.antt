mod ClapWords
mod DashedWords
mod NameLaws
mod Saying
