pub mod Causes
pub mod Expired
pub mod Expiry
pub mod Lines
pub mod Room
pub mod Surveys
pub mod Turns
