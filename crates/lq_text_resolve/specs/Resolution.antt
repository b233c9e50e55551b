-- The definitions of how programs are resolved.
pub mod Bare
pub mod Example
pub mod Laws
pub mod Parameters
pub mod Resolution
pub mod Resolves
pub mod Views
