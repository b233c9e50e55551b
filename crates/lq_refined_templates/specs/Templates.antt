pub mod Scopes
pub mod Cells
pub mod Fresh
pub mod Laws
pub mod Examples
