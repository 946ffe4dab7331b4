pub mod Causes
pub mod Compaction
pub mod Damages
pub mod Faults
pub mod Whole
