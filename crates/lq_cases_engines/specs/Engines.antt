pub mod Askable
pub mod Rows
