-- Implications: what the code's stand for.
pub mod Growing
pub mod Placed
pub mod Views
