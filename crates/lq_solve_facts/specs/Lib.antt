-- Answers to implications from facts of their hypotheses that are kept from question to question.
pub mod Facts
pub mod Nearest
pub mod Store
