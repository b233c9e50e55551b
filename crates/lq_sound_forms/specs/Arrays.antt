-- Arrays: definitions.
pub mod Arrays
