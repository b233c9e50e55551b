-- Judgements on three texts: definitions.
pub mod Agreeing
pub mod Safety
pub mod Answers
