pub mod Faults
pub mod Runs
pub mod Sets
pub mod Writing
