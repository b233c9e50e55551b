-- Laws of programs of texts.
pub mod Laws
