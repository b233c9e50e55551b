-- The trees of the three texts, said of their tokens.
pub mod Tokens
pub mod Types
pub mod Patterns
pub mod Expressions
pub mod Items
pub mod Predicates
pub mod Texts
pub mod Examples
