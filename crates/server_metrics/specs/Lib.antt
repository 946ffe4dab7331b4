pub mod Texts
pub mod Families
pub mod Listeners
pub mod Times
pub mod Pages
pub mod Requests
pub mod Replies
