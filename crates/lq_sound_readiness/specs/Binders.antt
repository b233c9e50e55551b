-- What a program that is read binds: laws.
pub mod Laws
