-- Refined types in memory, and the implications of subtypings between them.
pub mod ContextsLemmas
pub mod SplitLemmas
pub mod TableLemmas
