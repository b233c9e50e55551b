-- Programs that are sorted by their annotations: definitions and laws.
pub mod Kinds
pub mod Laws
