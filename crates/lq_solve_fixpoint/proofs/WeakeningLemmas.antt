pub mod Setting
pub mod Counting
pub mod Rows
pub mod Members
pub mod Inserting
pub mod Weakening
pub mod Looping
