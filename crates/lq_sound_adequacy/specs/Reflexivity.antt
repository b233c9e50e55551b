-- Types as subtypes of themselves: definitions and a law.
pub mod Laws
