pub mod Addresses
pub mod Networks
pub mod NetworkTexts
pub mod AllowLists
pub mod Buckets
pub mod Rates
