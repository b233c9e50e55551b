-- The search for a point of a path, or for a tree that proves it.
pub mod Path
pub mod Pruning
pub mod Search
