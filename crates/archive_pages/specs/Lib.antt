pub mod Spans
pub mod Pages
pub mod Places
pub mod Props
pub mod Ranks
pub mod Paged
