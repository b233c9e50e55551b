-- Answers to implications from facts of their hypotheses that are kept from question to question.
pub mod FactsLemmas
pub mod NearestLemmas
pub mod StoreLemmas
