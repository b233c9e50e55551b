-- Implications of subtypings in scope: definitions and a law.
pub mod Bound
