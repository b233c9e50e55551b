-- Lemmas.
pub mod Posed
pub mod Scoped
pub mod Taken
pub mod Totals
