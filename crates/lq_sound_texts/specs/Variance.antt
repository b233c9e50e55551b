-- Datatypes of programs with whose names nothing is wrong.
pub mod Covariant
