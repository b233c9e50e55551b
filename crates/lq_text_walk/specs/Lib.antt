-- Programs whose names are bound, and walks over trees.
pub mod Scoped
pub mod Walk
