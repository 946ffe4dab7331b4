pub mod Deciding
pub mod Prefixes
pub mod Sending
