pub mod Backups
pub mod Copies
pub mod Drafts
