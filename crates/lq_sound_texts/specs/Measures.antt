-- The measures of a text: definitions and laws.
pub mod Laws
