-- Refined types: definitions.
pub mod Refined
pub mod Operations
pub mod Unfolding
pub mod Context
pub mod Laws
