-- Lemmas.
pub mod Entries
pub mod Templates
