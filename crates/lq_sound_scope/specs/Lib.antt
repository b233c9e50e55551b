-- What is read of a typed text is plain, in scope and well sorted: definitions and laws.
pub mod Environments
pub mod GeneralUses
pub mod Matrices
pub mod NameCounts
pub mod Operations
pub mod Scalars
pub mod Scopes
pub mod Sorts
pub mod Splits
pub mod Values
