-- The judgement on three texts: what it is, the calls that give it, and its laws.
mod JudgementLemmas
mod VerdictLemmas
