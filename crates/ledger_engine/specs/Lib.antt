pub mod Findings
pub mod Known
pub mod Laws
pub mod Lines
pub mod Sealing
pub mod Verifying
