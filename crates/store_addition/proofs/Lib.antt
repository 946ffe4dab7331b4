pub mod Steps
pub mod Disks
