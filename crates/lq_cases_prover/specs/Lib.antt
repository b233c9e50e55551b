-- Cases.
pub mod Decide
pub mod Prover
