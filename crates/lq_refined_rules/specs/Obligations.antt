-- What a program is asked for: definitions and laws.
pub mod Obligation
pub mod Obligations
pub mod Laws
