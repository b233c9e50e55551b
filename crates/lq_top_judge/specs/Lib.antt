-- The judgement on three texts: what it is, the calls that give it, and its laws.
pub mod Judgement
pub mod Verdict
