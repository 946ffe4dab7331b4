pub mod Becoming
pub mod Holding
pub mod Noting
pub mod Placing
pub mod Settling
pub mod Stepping
pub mod Transferring
