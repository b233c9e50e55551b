-- Twins of types: definitions.
pub mod Names
pub mod Laws
