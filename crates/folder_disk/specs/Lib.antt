pub mod Boots
pub mod Faults
pub mod Folders
pub mod Locks
pub mod Owners
