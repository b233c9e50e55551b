-- Lemmas.
pub mod Datatypes
pub mod Written
