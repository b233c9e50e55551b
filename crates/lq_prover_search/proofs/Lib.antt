-- The search for a point of a path, or for a tree that proves it.
pub mod PathLemmas
pub mod PruningLemmas
pub mod SearchLemmas
