-- Refined types, their parts, their operations and subtyping: definitions and laws.
pub mod Parts
pub mod Renumbering
pub mod Subtyping
pub mod Types
