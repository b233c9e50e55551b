-- What checks runs well, and is safe: definitions and laws.
pub mod Plain
pub mod Safety
pub mod Scenes
