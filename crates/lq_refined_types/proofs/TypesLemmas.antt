pub mod Erasing
pub mod Replacing
