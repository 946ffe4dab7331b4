pub mod OldForms
pub mod OldTexts
pub mod OldPrefixes
pub mod NewOctets
pub mod Steps
pub mod Migrated
