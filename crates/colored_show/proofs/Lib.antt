mod Added
pub mod ColorLemmas
mod Colored
mod Once
mod Painted
