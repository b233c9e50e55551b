-- Definitions of texts that are values or whose types have no variables, and matches of texts, which have an arm: definitions and laws.
pub mod Settled
pub mod Arms
pub mod Laws
