-- The types of a program's definitions as lines.
pub mod Lines
pub mod Listed
pub mod Views
