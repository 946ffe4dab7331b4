pub mod Spans
pub mod Settled
pub mod Within
pub mod Records
