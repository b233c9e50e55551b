-- Lemmas.
pub mod Erasing
pub mod Names
pub mod Fixed
pub mod Twins
pub mod Programs
