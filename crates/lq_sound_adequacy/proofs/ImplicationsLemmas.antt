-- Lemmas.
pub mod Types
pub mod Parts
pub mod Forms
pub mod Entries
pub mod Splits
pub mod Implications
pub mod Predicates
