-- Refined types for type variables: definitions.
pub mod Instances
pub mod Laws
