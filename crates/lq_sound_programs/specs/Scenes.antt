-- Numbers of objects for a program: definitions.
pub mod Scenes
