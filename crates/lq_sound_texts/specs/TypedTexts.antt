-- What is checked of a typed text, and that it is safe then: definitions and laws.
pub mod Safety
pub mod Instances
