-- The types that solve a system, as a table: definitions.
pub mod Heads
pub mod Slots
