pub mod Operands
pub mod Calling
