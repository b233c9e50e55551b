-- Implications in memory: their environments, and what is put for the names of their parts.
pub mod EnvironmentsLemmas
pub mod ImplicationsLemmas
pub mod SubstitutionLemmas
