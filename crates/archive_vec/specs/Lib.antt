pub mod Layout
pub mod Positions
pub mod Reads
