pub mod Exchanges
pub mod Lines
pub mod Telling
pub mod Growing
