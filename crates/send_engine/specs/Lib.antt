pub mod Options
pub mod Sending
pub mod Values
