pub mod Clocks
pub mod Numbers
pub mod Readings
pub mod TimeDecision
pub mod Times
pub mod Values
