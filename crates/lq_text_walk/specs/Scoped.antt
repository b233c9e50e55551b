-- The definitions of scoped programs.
pub mod Numbers
pub mod Scoping
pub mod Signature
pub mod Uses
pub mod Views
pub mod Whole
