-- Expressions that leave the world as it is, and runs that agree: definitions.
pub mod Quiet
pub mod Laws
