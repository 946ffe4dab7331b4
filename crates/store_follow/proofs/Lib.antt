pub mod Entries
pub mod Listed
pub mod Looking
pub mod Octets
pub mod Repeated
pub mod Runs
