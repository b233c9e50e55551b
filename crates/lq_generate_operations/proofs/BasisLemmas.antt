pub mod Binding
pub mod Rows
