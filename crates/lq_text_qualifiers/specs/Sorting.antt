-- The definitions of measures and qualifiers whose names are bound.
pub mod Filing
pub mod Making
pub mod Placeholders
pub mod Rules
pub mod Sorted
pub mod Tasks
pub mod Views
pub mod Walking
