pub mod Bounds
pub mod Dividing
