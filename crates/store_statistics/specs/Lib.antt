pub mod Files
pub mod Lines
pub mod Looks
pub mod Statistics
pub mod Sums
pub mod Tallies
pub mod Times
