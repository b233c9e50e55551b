-- Subtyping: definitions.
pub mod Shaped
pub mod Implication
pub mod Subtype
pub mod Splitting
