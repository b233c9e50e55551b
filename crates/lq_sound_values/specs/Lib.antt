-- The values that inhabit refined types, and when the forms of a normal program run well: definitions and laws.
pub mod Inclusion
pub mod Inhabitants
pub mod Instantiation
pub mod NewNames
pub mod Runs
pub mod Twins
