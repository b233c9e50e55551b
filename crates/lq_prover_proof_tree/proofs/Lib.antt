-- What implications are made of, and the trees that prove them.
pub mod LiteralsLemmas
pub mod TreesLemmas
