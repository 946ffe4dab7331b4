pub mod Kept
pub mod Left
pub mod Received
pub mod Taking
