pub mod Calls
pub mod Files
pub mod Fuses
pub mod Memory
pub mod Names
pub mod States
