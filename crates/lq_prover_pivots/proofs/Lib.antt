-- Chains of pivots by the rule of least numbers, their entries by Cramer's rule, and their work: definitions and laws.
pub mod CramerLemmas
pub mod PivotsLemmas
pub mod WorkLemmas
