pub mod CivilTimes
pub mod DayNumbers
pub mod Ids
pub mod InnerYears
pub mod Masks
pub mod Octets
pub mod Tables
