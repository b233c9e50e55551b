-- That the uses of names in a normal form fit: definitions.
pub mod Fits
pub mod Instances
pub mod Laws
