pub mod Beginnings
pub mod Stops
