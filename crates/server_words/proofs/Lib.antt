pub mod AddressLemmas
pub mod ListenerLemmas
pub mod NetworkLemmas
pub mod ServeLemmas
