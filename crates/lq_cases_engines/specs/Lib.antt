-- Cases.
pub mod Differences
pub mod Engines
pub mod Simplex
