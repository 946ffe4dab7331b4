pub mod Asides
pub mod Causes
pub mod Durables
pub mod Recovery
pub mod Segments
pub mod Shares
