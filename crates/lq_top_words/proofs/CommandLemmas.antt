-- The proofs of this crate.
pub mod Rows
pub mod Walking
pub mod Parsing
