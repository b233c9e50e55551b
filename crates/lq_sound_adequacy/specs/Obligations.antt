-- What programs are asked for, well sorted: definitions and laws.
pub mod Kinds
pub mod Sorted
pub mod Laws
