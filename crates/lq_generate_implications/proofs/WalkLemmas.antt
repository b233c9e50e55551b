-- Lemmas about walks.
pub mod Walks
pub mod Opening
pub mod Passing
pub mod Operands
pub mod Chosen
pub mod Views
pub mod Matching
pub mod Stepping
