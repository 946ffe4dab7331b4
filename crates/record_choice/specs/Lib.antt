pub mod Choices
pub mod Kept
pub mod Choosing
