-- What is known of a normal program, and what is visible.
pub mod Fits
pub mod Growing
pub mod Latest
pub mod Levels
pub mod Notes
pub mod Scopes
pub mod Spans
pub mod Stack
pub mod Takes
pub mod Walking
