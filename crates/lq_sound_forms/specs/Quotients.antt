-- Quotients and remainders: definitions.
pub mod Quotients
