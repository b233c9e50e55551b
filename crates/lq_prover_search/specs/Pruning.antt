pub mod Span
pub mod Moved
