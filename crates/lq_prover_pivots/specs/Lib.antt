-- Chains of pivots by the rule of least numbers, their entries by Cramer's rule, and their work: definitions and laws.
pub mod Cramer
pub mod Pivots
pub mod Work
