-- Lemmas.
pub mod Agreement
pub mod Answering
pub mod Safe
pub mod Selections
pub mod Texts
pub mod Verdicts
