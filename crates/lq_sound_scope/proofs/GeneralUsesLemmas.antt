-- Lemmas.
pub mod Quiet
pub mod Visits
pub mod Source
pub mod Keeping
pub mod Reading
pub mod Composing
