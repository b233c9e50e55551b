-- That typed texts are posed, and what they are asked for speaks of bound names: laws.
pub mod Laws
