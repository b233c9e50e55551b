-- The walk over a program that makes its implications.
pub mod GenerateLemmas
pub mod ObligationsLemmas
pub mod WalkLemmas
