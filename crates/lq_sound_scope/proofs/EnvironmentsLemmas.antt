-- Lemmas.
pub mod Environments
