pub mod Rooted
pub mod Rooting
pub mod Bounded
pub mod Asking
pub mod Proving
pub mod Proved
pub mod Confirmed
pub mod Saying
