-- What is left of stacks.
pub mod Left
