-- The rules of types, node by node and visit by visit.
pub mod ConstructorsLemmas
pub mod EquationsLemmas
mod TypingsLemmas
mod VisitsLemmas
