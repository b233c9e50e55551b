-- Lemmas.
pub mod Exclusive
pub mod Reflexive
