-- Cases.
pub mod DifferencesLemmas
mod EnginesLemmas
pub mod SimplexLemmas
