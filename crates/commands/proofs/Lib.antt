pub mod RequestLemmas
pub mod RunLemmas
pub mod JoinLemmas
