-- Scalar programs, and that what is read of them is plain: definitions and laws.
pub mod Scalar
pub mod Uses
pub mod Written
pub mod Data
pub mod Laws
pub mod Example
pub mod ListExample
pub mod GeneralExample
