pub mod Answered
pub mod Archived
pub mod Gathering
pub mod GatheringLaws
pub mod Merged
pub mod Migrated
pub mod Spilled
