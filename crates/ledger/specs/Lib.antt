pub mod Chains
pub mod Laws
pub mod Lines
pub mod Readings
pub mod Standings
pub mod Words
pub mod Writing
