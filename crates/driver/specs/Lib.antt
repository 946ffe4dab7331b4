pub mod Effects
pub mod Sessions
pub mod Devices
pub mod Run
pub mod Holding
pub mod Ended
