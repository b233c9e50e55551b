-- Definitions that the contracts cite.
pub mod Laws
pub mod Naming
pub mod Seen
pub mod Slots
pub mod Measuring
pub mod Bounds
pub mod Refusing
pub mod Numbering
pub mod Errors
pub mod Whole
