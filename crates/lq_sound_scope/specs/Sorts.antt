-- Predicates, parts and types that are well sorted: definitions and laws.
pub mod Sorts
pub mod Types
pub mod Equations
pub mod Laws
