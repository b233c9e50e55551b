-- The rules of types, node by node and visit by visit.
pub mod Constructors
pub mod Equations
pub mod Typings
pub mod Visits
