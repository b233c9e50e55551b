-- Programs whose normal form can be read: definitions.
pub mod Suits
pub mod Laws
