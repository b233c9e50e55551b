-- What is read of the normal form of a typed text: laws.
pub mod Laws
