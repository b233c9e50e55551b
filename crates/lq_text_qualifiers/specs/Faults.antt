-- The definitions of shapes: what is wrong with measures and qualifiers.
pub mod Complaints
pub mod Datatypes
pub mod Equations
pub mod Least
pub mod Lookups
pub mod Predicates
pub mod Qualifiers
pub mod Shapes
pub mod Views
pub mod Work
