pub mod Blocks
pub mod PageLists
pub mod Searching
pub mod Adding
pub mod Writings
pub mod Records
pub mod Onward
