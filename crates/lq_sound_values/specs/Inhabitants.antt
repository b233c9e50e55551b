-- The values that inhabit a refined type: definitions.
pub mod Truth
pub mod Shut
pub mod Inhabits
pub mod Runs
pub mod Below
pub mod Datatypes
pub mod Laws
