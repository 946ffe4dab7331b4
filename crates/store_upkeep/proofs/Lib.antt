pub mod DayJoins
pub mod DaysKept
pub mod SameSets
pub mod Verdicts
