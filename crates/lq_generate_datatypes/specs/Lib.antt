-- The datatypes of a program: definitions.
pub mod Equations
pub mod Views
