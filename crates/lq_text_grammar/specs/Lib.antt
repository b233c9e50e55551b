-- The definitions of grammars and readings.
pub mod Kinds
pub mod Grammar
pub mod Reading
pub mod Levels
