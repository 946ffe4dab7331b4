pub mod RunLists
pub mod JoinedRuns
