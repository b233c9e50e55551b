pub mod Rows
pub mod Tupling
pub mod Binding
pub mod Arms
pub mod Alike
pub mod Matching
