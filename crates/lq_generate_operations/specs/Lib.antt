-- What a program is checked over, and the types and demands of its operations.
pub mod Basis
pub mod Operations
