-- Cases.
pub mod DecideLemmas
mod ProverLemmas
