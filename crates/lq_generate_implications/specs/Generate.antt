-- The implications of a program: definitions.
pub mod Refusing
