-- Constructors: definitions.
pub mod Builds
