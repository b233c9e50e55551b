-- Laws of the names of normal forms.
pub mod Laws
