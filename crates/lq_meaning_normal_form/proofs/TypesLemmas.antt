-- Lemmas.
pub mod Parts
pub mod Patterns
pub mod Keeps
pub mod Given
pub mod Programs
pub mod Scoped
