pub mod TreeHashes
pub mod Sums
pub mod Parts
pub mod Lines
pub mod Steps
pub mod DigestLaws
pub mod Endings
pub mod Plain
