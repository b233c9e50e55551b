-- Definitions that the contracts cite.
pub mod Solutions
pub mod Adding
pub mod Rows
pub mod Solved
pub mod Within
pub mod Templates
pub mod Gathered
