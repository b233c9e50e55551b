-- Each form of a normal program runs well where it checks: definitions and laws.
pub mod ArraysLemmas
pub mod BuildsLemmas
pub mod CallsLemmas
pub mod FieldsLemmas
pub mod MatchesLemmas
pub mod PuresLemmas
pub mod QuietLemmas
pub mod QuotientsLemmas
pub mod TuplesLemmas
