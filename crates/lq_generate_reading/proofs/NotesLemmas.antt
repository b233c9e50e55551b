-- Lemmas.
pub mod Fronts
pub mod Noting
pub mod Slots
