pub mod Globs
pub mod Occurrences
