pub mod Datatypes
pub mod Scoping
pub mod DataExample
