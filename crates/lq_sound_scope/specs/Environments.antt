-- Templates in scope, in environments: laws.
pub mod Laws
