-- Lemmas.
pub mod Qualifiers
pub mod Instances
