-- Environments: definitions.
pub mod Entries
pub mod Whole
