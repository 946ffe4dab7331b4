pub mod Civils
pub mod CanonicalOctets
pub mod Collected
pub mod Merged
pub mod Limits
pub mod Judged
pub mod OneFault
pub mod Held
