mod SetLaws
mod Trimmed
