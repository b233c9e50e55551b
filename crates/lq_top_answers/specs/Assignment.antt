-- Assignments: what the code's stand for, and how large a type is.
pub mod Views
pub mod Sizes
