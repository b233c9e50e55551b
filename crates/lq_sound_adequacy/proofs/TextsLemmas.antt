-- Lemmas.
pub mod Texts
