-- Lemmas.
pub mod Basics
pub mod Parts
pub mod Scopes
pub mod Types
pub mod Instances
pub mod Fields
pub mod Speaking
