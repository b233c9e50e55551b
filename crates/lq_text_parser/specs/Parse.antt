-- The definitions of texts and their trees.
pub mod Terminals
pub mod Texts
pub mod Trees
pub mod Outcome
pub mod Lexemes
pub mod Making
