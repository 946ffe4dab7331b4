pub mod Batches
pub mod Journals
