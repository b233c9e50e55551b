-- The strongest solution of implications over instances by the prover, or the first demand that fails.
pub mod GatheringLemmas
pub mod SelectionsLemmas
pub mod SmallFormsLemmas
mod WeakenLemmas
