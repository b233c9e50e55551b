-- Lemmas.
pub mod Matrices
pub mod Variables
