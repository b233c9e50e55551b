-- Lemmas.
pub mod Lists
pub mod Names
pub mod Places
pub mod Terms
pub mod Fitting
pub mod Sorts
