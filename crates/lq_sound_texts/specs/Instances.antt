-- Sorts of qualifiers and of their instances: definitions and laws.
pub mod Sorts
pub mod Laws
