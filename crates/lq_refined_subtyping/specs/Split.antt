-- Splitting: definitions.
pub mod Appending
pub mod Counting
pub mod Fields
pub mod Given
pub mod Growing
pub mod Recursive
