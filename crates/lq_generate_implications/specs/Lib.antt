-- The walk over a program that makes its implications.
pub mod Generate
pub mod Obligations
pub mod Walk
