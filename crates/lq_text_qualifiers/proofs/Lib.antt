-- Measures and qualifiers: what is wrong with them, and what they are with their names bound.
mod FaultsLemmas
pub mod SortingLemmas
