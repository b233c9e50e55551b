-- What is demanded in scope: definitions and a law.
pub mod Laws
