-- Laws of programs that are ready for their implications.
pub mod Laws
