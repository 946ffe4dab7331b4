pub mod Addresses
pub mod Listeners
pub mod Networks
pub mod Serves
