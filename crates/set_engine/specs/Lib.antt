pub mod Selecting
pub mod Combining
pub mod Digesting
pub mod Counting
