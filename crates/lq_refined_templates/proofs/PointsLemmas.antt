pub mod Erasing
pub mod Cells
pub mod Numbering
