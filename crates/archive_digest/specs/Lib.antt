pub mod Digests
pub mod Digested
pub mod DigestedWith
pub mod Sums
pub mod Putting
pub mod Digesting
