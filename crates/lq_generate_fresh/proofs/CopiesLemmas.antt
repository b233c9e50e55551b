pub mod Scopes
pub mod Cells
pub mod Copies
