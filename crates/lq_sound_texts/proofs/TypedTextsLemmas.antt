-- Lemmas.
pub mod Outcomes
pub mod Texts
pub mod Instances
pub mod Predeclared
