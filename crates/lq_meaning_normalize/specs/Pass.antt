-- The pass over a program.
pub mod Forming
pub mod Going
pub mod Rules
pub mod Views
