-- Source names of what is defined, and that reading looks at no other types of names: definitions.
pub mod Texts
pub mod Laws
