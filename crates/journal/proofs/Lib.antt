pub mod Batches
pub mod Begun
pub mod Commit
pub mod Create
pub mod Files
pub mod Readings
pub mod Repair
pub mod Synced
