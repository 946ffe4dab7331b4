pub mod ClockLemmas
pub mod GivenLemmas
pub mod NumberLemmas
pub mod TimeLemmas
