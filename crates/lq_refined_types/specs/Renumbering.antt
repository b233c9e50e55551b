-- Refined types whose unknowns have other numbers: definitions.
pub mod Renumbered
pub mod Laws
