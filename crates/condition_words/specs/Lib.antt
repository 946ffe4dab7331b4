pub mod Conditions
pub mod Names
pub mod Tests
pub mod WordDecision
