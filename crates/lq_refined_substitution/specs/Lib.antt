-- Implications in memory: their environments, and what is put for the names of their parts.
pub mod Environments
pub mod Implications
pub mod Substitution
