pub mod Building
pub mod Items
pub mod PatternRows
pub mod Running
pub mod Stacks
pub mod Tuples
