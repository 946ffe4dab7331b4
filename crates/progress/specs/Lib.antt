pub mod Line
pub mod Pace
