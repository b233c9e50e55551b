-- Templates that are well sorted: definitions and laws.
pub mod Points
pub mod Laws
