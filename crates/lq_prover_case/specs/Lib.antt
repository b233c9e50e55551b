-- One path of a search: facts, objects, and what the engines know of them.
pub mod Equations
pub mod Objects
pub mod State
