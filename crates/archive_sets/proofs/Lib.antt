pub mod Selecting
pub mod Steps
pub mod Stops
pub mod SelectionLaws
pub mod Ids
pub mod Messages
pub mod Records
pub mod Together
