-- Laws of programs of texts whose normal form can be read.
pub mod Flat
pub mod Laws
