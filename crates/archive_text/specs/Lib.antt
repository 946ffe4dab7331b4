pub mod Entries
pub mod EntryViews
pub mod Text
pub mod Faults
pub mod Stores
pub mod Sets
pub mod Periods
pub mod Positions
