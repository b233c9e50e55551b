-- Measures of values: definitions.
pub mod Values
pub mod Reading
pub mod Laws
pub mod Examples
