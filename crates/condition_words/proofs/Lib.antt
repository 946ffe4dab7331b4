pub mod NameLemmas
pub mod TestLemmas
pub mod WordLemmas
