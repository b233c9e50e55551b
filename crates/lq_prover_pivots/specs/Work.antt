pub mod Needs
pub mod Sizes
pub mod Work
pub mod Extension
pub mod Laws
pub mod Part
pub mod Example
