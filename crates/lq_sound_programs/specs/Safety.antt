-- What checks is safe: definitions.
pub mod Scoped
pub mod Laws
pub mod Programs
pub mod Example
pub mod DataExample
pub mod GeneralExample
