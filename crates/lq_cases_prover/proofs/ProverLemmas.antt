-- Lemmas.
pub mod Speaking
