-- Lemmas.
pub mod Formed
pub mod Conditions
pub mod Texts
