-- Matrices under an assignment: laws.
pub mod Laws
