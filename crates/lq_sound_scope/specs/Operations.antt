-- What operations on types keep: definitions and laws.
pub mod Puts
pub mod Laws
