-- Tables of types: definitions.
pub mod Heads
pub mod Nodes
pub mod Seen
pub mod Whole
