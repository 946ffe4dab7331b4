pub mod Gatherings
pub mod Readings
pub mod Ranges
pub mod Sites
