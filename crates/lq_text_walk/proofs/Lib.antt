-- Programs whose names are bound, and walks over trees.
mod WalkLemmas
