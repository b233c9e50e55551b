-- What is to be solved for a typed program: definitions.
pub mod Posed
pub mod Refusing
pub mod Found
