-- Definitions that the contracts cite.
pub mod Owning
pub mod Laws
