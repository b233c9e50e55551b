-- The proofs of this crate.
pub mod Joins
pub mod Lengths
