pub mod Registers
pub mod Sums
pub mod Tables
pub mod Words
