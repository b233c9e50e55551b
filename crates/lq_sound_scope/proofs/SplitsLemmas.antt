-- Lemmas.
pub mod Forms
pub mod Parts
pub mod Matrices
pub mod Splits
