pub mod Adding
pub mod Lines
pub mod NoStores
pub mod Reading
pub mod Systems
pub mod Verifying
