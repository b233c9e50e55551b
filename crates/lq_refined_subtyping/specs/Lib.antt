-- Refined types in memory, and the implications of subtypings between them.
pub mod Contexts
pub mod Split
pub mod Table
