-- Lemmas.
pub mod Putting
pub mod Skipping
pub mod Keeping
