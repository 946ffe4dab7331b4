pub mod Listing
pub mod Settled
pub mod Receives
pub mod Serves
pub mod Collected
