pub mod Patterns
pub mod Reading
pub mod Binding
pub mod Parsed
pub mod Suiting
