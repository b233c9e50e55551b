-- Lemmas.
pub mod Growing
pub mod Renaming
pub mod Heads
pub mod Reading
