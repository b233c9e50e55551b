-- The definitions of names.
pub mod NameTable
