-- Lemmas.
pub mod Lists
pub mod Arguments
pub mod Names
pub mod Slots
pub mod One
pub mod Found
