pub mod Datatypes
pub mod Places
pub mod Rows
pub mod Uses
