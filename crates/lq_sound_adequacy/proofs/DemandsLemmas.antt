-- Lemmas.
pub mod Names
pub mod Demands
