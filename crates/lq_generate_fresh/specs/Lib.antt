-- Templates in tables, with the scopes of their unknowns.
pub mod Copies
pub mod Fresh
pub mod Scopes
