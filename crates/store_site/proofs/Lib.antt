pub mod Places
pub mod Gathers
pub mod HeldSets
