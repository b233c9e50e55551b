-- The definitions of what readings make.
pub mod Value
pub mod Types
pub mod Patterns
pub mod Expressions
pub mod Items
pub mod Predicates
pub mod Made
pub mod Trees
pub mod Laws
pub mod Views
pub mod Tops
pub mod Making
