pub mod Unions
pub mod Judging
pub mod Holding
pub mod Props
