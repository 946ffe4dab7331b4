pub mod Senders
pub mod Sent
pub mod Calls
pub mod Views
pub mod Answers
