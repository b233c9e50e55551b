-- Lemmas.
pub mod Symbols
pub mod Made
pub mod Points
pub mod Names
pub mod Pures
pub mod Reading
pub mod Assigned
