pub mod Batches
pub mod Behind
pub mod Gone
pub mod Lines
pub mod Tails
