pub mod Reading
pub mod Words
pub mod Texts
pub mod Views
pub mod Messages
