-- The walk over a program: definitions.
pub mod Asking
pub mod Choosing
pub mod Through
