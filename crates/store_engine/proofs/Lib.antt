pub mod Lined
pub mod Openings
pub mod Verified
