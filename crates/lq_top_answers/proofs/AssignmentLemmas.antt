pub mod Sizing
pub mod Rows
