-- How many names normal forms of texts bind: definitions and laws.
pub mod Short
pub mod Laws
