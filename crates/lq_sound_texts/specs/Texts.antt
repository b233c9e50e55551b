-- That typed texts are plain and safe: laws.
pub mod Laws
