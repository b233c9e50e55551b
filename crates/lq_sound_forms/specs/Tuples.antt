-- Tuples: definitions.
pub mod Tuples
