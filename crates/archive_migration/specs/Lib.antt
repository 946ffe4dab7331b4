pub mod OldEntries
pub mod OldTexts
pub mod OldFaults
pub mod Migration
pub mod Reading
