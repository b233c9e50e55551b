-- Obligations in memory: what they stand for.
pub mod Views
