pub mod Conditions
pub mod Selections
pub mod Failures
pub mod Selected
pub mod Selecting
pub mod Fields
pub mod Tests
pub mod Together
