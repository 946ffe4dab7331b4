pub mod Finding
pub mod Places
pub mod Runs
pub mod Stars
