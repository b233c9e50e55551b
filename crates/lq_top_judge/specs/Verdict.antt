-- Judgements on what is to be solved: definitions.
pub mod Names
pub mod Rows
pub mod Judgement
pub mod Posed
pub mod Counting
