pub mod Adding
pub mod Additions
