pub mod Files
pub mod Memory
pub mod Stored
pub mod Proved
pub mod JoinedFiles
pub mod Runs
