-- The definitions of scopes.
pub mod Complaints
pub mod Datatypes
pub mod Growing
pub mod Known
pub mod Least
pub mod Passing
pub mod Patterns
pub mod Spots
pub mod States
pub mod Uses
pub mod Views
