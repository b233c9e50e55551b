-- The normal form of programs: that it keeps every outcome and every type, and what it binds.
mod BindersLemmas
pub mod OutcomesLemmas
pub mod TypesLemmas
