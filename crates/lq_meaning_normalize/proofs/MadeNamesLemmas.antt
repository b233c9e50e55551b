-- Lemmas.
pub mod Adding
pub mod Ascending
pub mod Blocks
pub mod InOrder
pub mod Lets
pub mod Numbered
pub mod PatternRows
pub mod Tables
