pub mod Below
pub mod Disks
pub mod Ends
pub mod Ledgers
