-- Unknowns of which many are copies: definitions.
pub mod Completed
pub mod Counting
pub mod Flattening
pub mod Groups
pub mod Longer
pub mod Patterns
pub mod Runs
pub mod Views
