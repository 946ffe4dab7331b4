pub mod Options
pub mod Readings
pub mod Forms
pub mod Commands
pub mod LeftOut
pub mod Partial
