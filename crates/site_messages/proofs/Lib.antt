pub mod Wholes
pub mod WordLemmas
pub mod ValueLemmas
pub mod PlaceLemmas
pub mod RangeLemmas
pub mod RequestLemmas
