-- The three grammars read with places, and which trees the tokens of a text stand for.
pub mod ParseLemmas
pub mod SyntaxLemmas
