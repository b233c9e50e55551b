-- What a program is asked for, over names of environments: definitions and laws.
pub mod Bound
pub mod Laws
