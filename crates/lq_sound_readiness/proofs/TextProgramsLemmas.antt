-- Lemmas.
pub mod Composing
pub mod Given
pub mod Once
pub mod Seen
