-- Lemmas.
pub mod Seeing
pub mod Lets
pub mod Scope
pub mod Counting
pub mod Once
