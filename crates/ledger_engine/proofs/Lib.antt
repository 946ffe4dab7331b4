pub mod Comparing
pub mod Founding
pub mod Rooted
pub mod Sealed
