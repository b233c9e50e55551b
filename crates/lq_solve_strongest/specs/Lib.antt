-- The strongest solution of implications over instances by the prover, or the first demand that fails.
pub mod Gathering
pub mod Selections
pub mod SmallForms
pub mod Weaken
