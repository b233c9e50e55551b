-- What subtypings add: definitions.
pub mod Growing
