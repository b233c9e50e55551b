-- What a program's annotation is, and that there is one: definitions.
pub mod Annotated
pub mod Laws
