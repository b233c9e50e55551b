-- Templates as subtypes of themselves: laws.
pub mod Laws
