-- Each form of a normal program runs well where it checks: definitions and laws.
pub mod Arrays
pub mod Builds
pub mod Calls
pub mod Fields
pub mod Matches
pub mod Pures
pub mod Quiet
pub mod Quotients
pub mod Tuples
