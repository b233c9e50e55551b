-- Operands and calls: definitions.
pub mod Operands
