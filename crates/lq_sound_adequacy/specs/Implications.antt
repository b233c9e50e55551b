-- Implications that are well sorted: definitions and laws.
pub mod Sorted
pub mod Laws
