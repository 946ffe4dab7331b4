pub mod Keepers
pub mod Keeping
pub mod Runs
pub mod Spares
pub mod Watching
