-- Refined types in a table: what its rows stand for.
pub mod Forms
pub mod Changes
pub mod Rows
pub mod Growing
pub mod Whole
pub mod Unfolding
