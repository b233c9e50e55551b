-- Lemmas.
pub mod Agreement
pub mod Cells
pub mod Parts
pub mod PatternRows
