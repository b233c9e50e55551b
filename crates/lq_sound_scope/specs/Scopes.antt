-- Templates and programs that are in scope: definitions and laws.
pub mod Over
pub mod InScope
pub mod Laws
