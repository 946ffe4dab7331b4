pub mod Batches
pub mod Laws
pub mod Looks
