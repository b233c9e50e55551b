pub mod Erasing
pub mod Numbering
