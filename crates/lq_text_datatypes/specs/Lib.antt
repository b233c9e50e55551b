-- The definitions of datatypes by the types of their fields.
pub mod Datatypes
pub mod Tasks
pub mod Views
