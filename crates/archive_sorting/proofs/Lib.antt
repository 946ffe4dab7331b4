pub mod Blocks
pub mod SortedSpans
pub mod Members
pub mod Writings
