pub mod Steps
pub mod Listed
pub mod Lines
pub mod Ends
pub mod Receiving
pub mod Serving
pub mod Collecting
pub mod Sockets
